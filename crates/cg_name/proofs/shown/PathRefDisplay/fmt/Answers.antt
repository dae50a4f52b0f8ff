use Rattle.std.proofs.Common.{◌∷◌, [], refl, sym, subst}
use Rattle.std.specs.Fmt.{HasWritten}
use Rattle.std.specs.List.{flat_map}
use Rattle.std.proofs.Output.{has_written_append}
use Rattle.cg_name.specs.Word.{quoted_byte}
use Rattle.cg_name.proofs.WrittenPaths.{bare_path, quoted_path, some_names}
use Rattle.cg_name.proofs.shown.PathRefDisplay.fmt.Goals as goal

pub returns-then-has_plain_names-clause-writes : goal.returns-then-has_plain_names-clause-writes
returns-then-has_plain_names-clause-writes g c = λ plain ok.
    let some = some_names c.args.self.now (sym c.if-is_root.ensures) in
    let word = bare_path c.args.self.now some (sym c.if-has_plain_names.ensures) in
    subst (λ text. HasWritten g.W.Write.write_str_gives c.args.f.now text c.write.new.self) (sym word) (c.write.ensures.writes plain ok)

pub returns-clause-writes : goal.returns-clause-writes
unfolding lib.Utf8.encode
returns-clause-writes g c = λ plain ok.
    let some = some_names c.args.self.now (sym c.if-is_root.ensures) in
    let word = quoted_path c.args.self.now some (sym c.if-has_plain_names.ensures) in
    let body = flat_map quoted_byte (flat_map (λ n. 47 ∷ n) c.args.self.now) in
    let mark = c.in_ok-write_char.ensures.writes plain refl in
    let names = has_written_append _ _ (34 ∷ []) _ body _ mark (c.in_ok-write.ensures.writes mark.plain refl) in
    let all = has_written_append _ _ (34 ∷ body) _ (34 ∷ []) _ names (c.write_char-3.ensures.writes names.plain ok) in
    subst (λ text. HasWritten g.W.Write.write_str_gives c.args.f.now text c.write_char-3.new.self) (sym word) all
