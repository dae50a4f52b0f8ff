use Rattle.std.proofs.Common.{◌≡◌, ℕ, ◌+◌, ◌-◌, ◌*◌, ◌/◌, ◌^◌, ◌++◌, length, drop, replicate, subst, sym, ap, ◌∙◌, arith}
use Rattle.std.specs.Int.{w32, from_le_bytes}
use Rattle.std.proofs.lemmas.List.{drop-drop}
use Rattle.cg_name.proofs.FewBytes.{AreBytes, bytes_behind, shifted}
use Rattle.cg_name.proofs.simple.last_from.Goals as goal

pub returns : goal.returns
returns c =
    let word = c.args.word.now in
    let from = c.args.from in
    let last = c.in-Some.bytes.now in
    let past : ℕ = from + 4 - length word in
    let chunk = c.in-Some.ensures.cases in
    let is : last ≡ drop (length word - 4) word = chunk.1.same in
    let small : AreBytes last = subst AreBytes (sym is) (bytes_behind (length word - 4) word (λ i. let fits = c.type_inv.word i in omega (arith, fits.fits))) in
    let rest : drop past last ≡ drop from word = ap (drop past) is ∙ drop-drop past (length word - 4) word ∙ ap (λ k. drop k word) (omega (arith, c.requires.some, c.requires.within, c.requires.few)) in
    ap (λ n. n / 2 ^ (8 * past)) (c.from-last.ensures ∙ c.from_le_bytes.ensures)
    ∙ shifted last past (ap length is ∙ chunk.1.long) small (omega (arith, c.requires.within))
    ∙ ap (λ bs. from_le_bytes w32 (bs ++ replicate past 0)) rest
