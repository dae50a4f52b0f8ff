use Rattle.std.proofs.Common.{suc, ◌++◌, sym, subst, length, drop, replicate, arith, ◌∙◌, length-append}
use Rattle.std.proofs.lemmas.List.{get_or_append_left}
use Rattle.cg_name.specs.Simple.{may_follow, GoesOn}
use Rattle.cg_name.proofs.simple.few_go_on.Goals as goal

pub returns : goal.returns
returns c = λ on k low.
    let text = c.args.text.now in
    let rest = drop (length text) (replicate 17 97) in
    let all : GoesOn (text ++ rest) = subst (λ front. GoesOn (front ++ rest)) c.copy_from_slice.ensures.after (c.front_goes_on.ensures on) in
    (λ i. may_follow (sym (get_or_append_left text rest 0 k (omega (arith, low))) i) (sym (get_or_append_left text rest 0 (suc k) low) i))
    ∙ all k (omega (arith, low, length-append text rest))
