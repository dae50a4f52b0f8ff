-- The text of a path tells the path.
use Rattle.std.proofs.Common.{◌≡◌, ℕ, List, sym, ap, subst, ◌∙◌}
use Rattle.cg_name.specs.Path.{Path, IsPath}
use Rattle.cg_name.specs.Packed.{names_in, packed_text, BeginsName, IsPacked}
use Rattle.cg_name.proofs.Packing.{names_in-packed_text, start-packed_text}

pub tells : (bs : List ℕ) (p : Path) → IsPath p → bs ≡ packed_text p → names_in bs ≡ p
tells bs p path is = ap names_in is ∙ names_in-packed_text p path

pub packed : (bs : List ℕ) (p : Path) → IsPath p → bs ≡ packed_text p → IsPacked bs
packed bs p path is = record {
  start = subst BeginsName (sym is) (start-packed_text p);
  path = subst IsPath (sym (tells bs p path is)) path;
}
