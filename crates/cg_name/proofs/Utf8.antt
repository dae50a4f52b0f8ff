-- The text of a path is UTF-8.
use Rattle.std.proofs.Common.{ℕ, zero, suc, List, [], ◌∷◌, ◌++◌, subst, arith}
use Rattle.std.specs.List.{AllByRecursion}
use Rattle.std.specs.Str.{IsUtf8, IsAscii}
use Rattle.std.proofs.lemmas.Str.{IsUtf8-append, IsUtf8-nil, IsUtf8-from_ascii}
use Rattle.cg_name.specs.Name.{IsName}
use Rattle.cg_name.specs.Path.{Path, IsPath}
use Rattle.cg_name.specs.Packed.{names_in, packed_text, IsPacked}
use Rattle.cg_name.proofs.Packing.{packed_text-names_in}

zero_is_ascii : IsAscii (0 ∷ [])
zero_is_ascii zero = omega arith
zero_is_ascii (suc i) = omega arith

zero_byte : IsUtf8 (0 ∷ [])
zero_byte = IsUtf8-from_ascii (0 ∷ []) zero_is_ascii

names_utf8 : (p : Path) → AllByRecursion IsName p → IsUtf8 (packed_text p)
names_utf8 [] h = IsUtf8-nil
names_utf8 (n ∷ p) h = IsUtf8-append (0 ∷ []) (n ++ packed_text p) zero_byte (IsUtf8-append n (packed_text p) h.0.text (names_utf8 p h.1))

pub utf8_text : (p : Path) → IsPath p → IsUtf8 (packed_text p)
utf8_text p h = names_utf8 p h.names

pub utf8_packed : (bs : List ℕ) → IsPacked bs → IsUtf8 bs
utf8_packed bs h = subst IsUtf8 (packed_text-names_in bs h.start) (utf8_text (names_in bs) h.path)
