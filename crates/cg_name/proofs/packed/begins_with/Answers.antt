-- The path of a text that begins with another's, where a name begins behind it or nothing is left.
use Rattle.std.proofs.Common.{rules, ◌≡◌, ℕ, ◌<◌, List, length, drop, sym, subst, arith}
use Rattle.std.proofs.lemmas.Slice.Eq.{starts_is}
use Rattle.std.proofs.lemmas.List.{drop_all}
use Rattle.std.proofs.lemmas.Bool.{eqb-true, eq-eqb}
use Rattle.std.proofs.lemmas.Bool.Decides.{Decides-eqb}
use Rattle.cg_name.specs.Packed.{BeginsName}
use Rattle.cg_name.proofs.Packing.{prefix_by_start, no_prefix, start_at, starts_at}
use Rattle.cg_name.proofs.packed.begins_with.Goals as goal

short_start : (ys : List ℕ) (k : ℕ) → k ≡ length ys → BeginsName (drop k ys)
short_start ys k e = subst BeginsName (sym (drop_all k ys (omega arith))) tt

pub returns-then-other-bytes : goal.returns-then-other-bytes
returns-then-other-bytes c =
    let s = starts_is Decides-eqb c.args.other.now c.args.bytes.now c.starts_with.result c.starts_with.ensures.value in
    let e : length c.args.other.now ≡ length c.args.bytes.now = search rules in
    prefix_by_start _ _ (drop (length c.args.bytes.now) c.args.other.now) _ c.requires.own c.requires.others (s.0 c.if-starts_with.true) (λ _. short_start c.args.other.now _ (sym e)) (λ _. eq-eqb _ _ e)

pub returns-else-other-bytes : goal.returns-else-other-bytes
returns-else-other-bytes c =
    let s = starts_is Decides-eqb c.args.other.now c.args.bytes.now c.starts_with.result c.starts_with.ensures.value in
    let low : length c.args.bytes.now < length c.args.other.now = search rules in
    prefix_by_start _ _ (drop (length c.args.bytes.now) c.args.other.now) _ c.requires.own c.requires.others (s.0 c.if-starts_with.true)
    (λ d. start_at c.args.other.now _ low (eqb-true _ _ d))
    (λ h. eq-eqb _ _ (starts_at c.args.other.now _ low h))

pub returns-else-starts_with : goal.returns-else-starts_with
returns-else-starts_with c =
    let s = starts_is Decides-eqb c.args.other.now c.args.bytes.now c.starts_with.result c.starts_with.ensures.value in
    no_prefix c.args.bytes.now c.args.other.now c.starts_with.result c.requires.own c.requires.others c.if-starts_with.false s.1
