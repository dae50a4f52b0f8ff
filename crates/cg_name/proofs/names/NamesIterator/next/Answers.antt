-- The first name, and the text of the others.
use Rattle.std.proofs.Common.{◌≡◌, ◌-◌, ℕ, List, ◌∷◌, length, take, drop, sym, ap, subst, ◌∙◌, arith, take_all, length-drop}
use Rattle.cg_name.specs.Packed.{names_in, first_name, IsPacked}
use Rattle.cg_name.specs.Path.{Path}
use Rattle.cg_name.proofs.Packing.{next_name}
use Rattle.cg_name.proofs.names.NamesIterator.next.Goals as goal

-- what stands behind a name at the head of a text
abbrev behind : List ℕ → List ℕ → List ℕ
behind name rest = take (length rest - length name) (drop (length name) rest)

behind_so : (rest name : List ℕ) → name ≡ first_name rest → drop (length (first_name rest)) rest ≡ behind name rest
behind_so rest name n = ap (λ m. drop (length m) rest) (sym n) ∙ sym (take_all _ _ (omega (arith, length-drop (length name) rest)))

still_packed : (b : ℕ) (text rest name : List ℕ) → text ≡ b ∷ rest → name ≡ first_name rest → IsPacked text → IsPacked (behind name rest)
still_packed b text rest name e n h = subst IsPacked (behind_so rest name n) (next_name b rest (subst IsPacked e h)).1

first_and_others : (b : ℕ) (text rest name given : List ℕ) (p : Path) → text ≡ b ∷ rest → name ≡ first_name rest → IsPacked text → names_in text ≡ p → given ≡ name → p ≡ given ∷ names_in (behind name rest)
first_and_others b text rest name given p e n h v g =
    let step = next_name b rest (subst IsPacked e h) in
    sym v ∙ ap names_in e ∙ step.0 ∙ (λ i. (sym n ∙ sym g) i ∷ names_in (behind_so rest name n i))

pub invariant_of-self : goal.invariant_of-self
invariant_of-self c = still_packed _ _ _ _ c.in_ok-rest.ensures.cases.0 c.first_name-name.ensures.value c.self.invariant

pub returns-clause-steps : goal.returns-clause-steps
returns-clause-steps c = first_and_others _ _ _ _ _ _ c.in_ok-rest.ensures.cases.0 c.first_name-name.ensures.value c.self.invariant c.self.view_is c.from_utf8_unchecked.ensures

pub returns-clause-goes : goal.returns-clause-goes
returns-clause-goes c =
    let e = first_and_others _ _ _ _ _ _ c.in_ok-rest.ensures.cases.0 c.first_name-name.ensures.value c.self.invariant c.self.view_is c.from_utf8_unchecked.ensures in
    record { on = λ _. (tt, tt, omega (arith, ap length e)); keeps = tt; rests = λ _. tt }
