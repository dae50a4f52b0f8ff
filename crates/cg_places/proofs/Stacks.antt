-- The first cell of one group's stack goes to another's, and the other stacks stay.
use Rattle.std.proofs.Common.{◌≡◌, ◌≢◌, ◌⊎◌, ◌↔◌, ℕ, zero, suc, ◌+◌, ◌<◌, List, [], ◌∷◌, length, Option, None, Some, unwrap_or, refl, sym, ap, subst, ◌∙◌, inl, inr, arith}
use Rattle.std.specs.List.{slice_get}
use Rattle.std.proofs.lemmas.Bool.{cases_eq}
use Rattle.cg_places.specs.Stacks.{Has, IsStack, IsStackOf, AreStacks}
use Rattle.cg_places.proofs.Lists.{same_some, some_not_none}

has_more : (h j : ℕ) (js : List ℕ) → Has js j → Has (h ∷ js) j
has_more h j js has = (suc has.0, has.1)

has_cases : (h j : ℕ) (js : List ℕ) → Has (h ∷ js) j → (h ≡ j) ⊎ Has js j
has_cases h j js (zero, at) = inl (same_some h j at)
has_cases h j js (suc i, at) = inr (i, at)

-- cells that aren't in a stack may name what they like
pub stack_kept : (next later : ℕ → Option ℕ) (first : ℕ) (js : List ℕ) → ((j : ℕ) → Has js j → later j ≡ next j) → IsStack next first js → IsStack later first js
stack_kept next later first [] same s = tt
stack_kept next later first (j ∷ js) same s = (s.0, s.1, same j (zero, refl) ∙ s.2, stack_kept next later s.1 js (λ k has. same k (has_more j k js has)) s.3)

once_rest : (h : ℕ) (js : List ℕ) → ((i j k : ℕ) → slice_get (h ∷ js) i ≡ Some k → slice_get (h ∷ js) j ≡ Some k → i ≡ j) → (i j k : ℕ) → slice_get js i ≡ Some k → slice_get js j ≡ Some k → i ≡ j
once_rest h js once i j k a b = let next : suc i ≡ suc j = once (suc i) (suc j) k a b in omega arith

not_first : (h : ℕ) (js : List ℕ) → ((i j k : ℕ) → slice_get (h ∷ js) i ≡ Some k → slice_get (h ∷ js) j ≡ Some k → i ≡ j) → (j : ℕ) → Has js j → h ≢ j
not_first h js once j has same = let no : zero ≡ suc has.0 = once zero (suc has.0) j (ap Some same) has.1 in absurd (omega arith)

-- ---- a cell goes onto a stack

module _ (next later group after : ℕ → Option ℕ) (to h first : ℕ) (names : later h ≡ Some first) (others : (j : ℕ) → j ≢ h → later j ≡ next j) (moved : after h ≡ Some to) (stayed : (j : ℕ) → j ≢ h → after j ≡ group j) where
  onto : (many : ℕ) (s : IsStackOf next group to first many) → ((j : ℕ) → Has s.cells j → j ≢ h) → IsStackOf later after to h (suc many)
  onto many s out = record {
    cells = h ∷ s.cells;
    many = ap suc s.many;
    linked = (refl, first, names, stack_kept next later first s.cells (λ j has. others j (out j has)) s.linked);
    once = once_more s.cells s.once out;
    own = λ j. (
      (λ has. elim (has_cases h j s.cells has) [
        | inl same ↦ ap after (sym same) ∙ moved
        | inr there ↦ stayed j (out j there) ∙ (s.own j).0 there
      ]),
      (λ is. elim (cases_eq j h) [
        | inl same ↦ (zero, ap Some (sym same))
        | inr ne ↦ has_more h j s.cells ((s.own j).1 (sym (stayed j ne) ∙ is))
      ]),
    );
  }
    where
      once_more : (js : List ℕ) → ((i j k : ℕ) → slice_get js i ≡ Some k → slice_get js j ≡ Some k → i ≡ j) → ((j : ℕ) → Has js j → j ≢ h) → (i j k : ℕ) → slice_get (h ∷ js) i ≡ Some k → slice_get (h ∷ js) j ≡ Some k → i ≡ j
      once_more js once out zero zero k a b = refl
      once_more js once out zero (suc j) k a b = absurd (out k (j, b) (sym (same_some h k a)))
      once_more js once out (suc i) zero k a b = absurd (out k (i, a) (sym (same_some h k b)))
      once_more js once out (suc i) (suc j) k a b = ap suc (once i j k a b)

  elsewhere : (g f many : ℕ) → g ≢ to → (x : IsStackOf next group g f many) → ((j : ℕ) → Has x.cells j → j ≢ h) → IsStackOf later after g f many
  elsewhere g f many ne x out = record {
    cells = x.cells;
    many = x.many;
    linked = stack_kept next later f x.cells (λ j has. others j (out j has)) x.linked;
    once = x.once;
    own = λ j. (
      (λ has. stayed j (out j has) ∙ (x.own j).0 has),
      (λ is.
          let there : j ≢ h = λ same. ne (same_some g to (sym is ∙ ap after same ∙ moved)) in
          (x.own j).1 (sym (stayed j there) ∙ is)),
    );
  }

  -- a new one
  pub pushed : (stack stacks : ℕ → Option (ℕ × ℕ)) (many : ℕ) → AreStacks next group stack → group h ≡ None → stack to ≡ Some (first, many) → stacks to ≡ Some (h, suc many) → ((g : ℕ) → g ≢ to → stacks g ≡ stack g) → AreStacks later after stacks
  pushed stack stacks many are new of_to now_to same g s h_g =
      let out : (i f n : ℕ) (x : IsStackOf next group i f n) (j : ℕ) → Has x.cells j → j ≢ h = λ i f n x j has eq. some_not_none i (group j) ((x.own j).0 has) (ap group eq ∙ new) in
      elim (cases_eq g to) [
        | inl is ↦
            let top : s ≡ (h, suc many) = same_some s (h, suc many) (sym h_g ∙ ap stacks is ∙ now_to) in
            let x = are to (first, many) of_to in
            subst (λ (y : ℕ × ℕ). IsStackOf later after g y.0 y.1) (sym top) (subst (λ k. IsStackOf later after k h (suc many)) (sym is) (onto many x (out to first many x)))
        | inr ne ↦ let x = are g s (sym (same g ne) ∙ h_g) in elsewhere g s.0 s.1 ne x (out g s.0 s.1 x)
      ]

-- ---- from one stack to another

module _ (next later group after : ℕ → Option ℕ) (stack stacks : ℕ → Option (ℕ × ℕ)) (are : AreStacks next group stack) (from to h n rest first many : ℕ) (apart : from ≢ to)
    (of_from : stack from ≡ Some (h, suc n)) (of_to : stack to ≡ Some (first, many)) (named : next h ≡ Some rest)
    (names : later h ≡ Some first) (others : (j : ℕ) → j ≢ h → later j ≡ next j) (moved : after h ≡ Some to) (stayed : (j : ℕ) → j ≢ h → after j ≡ group j)
    (now_from : stacks from ≡ Some (rest, n)) (now_to : stacks to ≡ Some (h, suc many)) (same_stack : (g : ℕ) → g ≢ from → g ≢ to → stacks g ≡ stack g) where
  -- what the first cell of a group that has one comes to
  first_is : IsStackOf next group from h (suc n) → (js : List ℕ) × (length js ≡ n) × IsStack next rest js × ((i j k : ℕ) → slice_get (h ∷ js) i ≡ Some k → slice_get (h ∷ js) j ≡ Some k → i ≡ j) × ((j : ℕ) → Has (h ∷ js) j ↔ (group j ≡ Some from))
  first_is s = by s.cells s.many s.linked s.once s.own
    where
      by : (cells : List ℕ) → length cells ≡ suc n → IsStack next h cells → ((i j k : ℕ) → slice_get cells i ≡ Some k → slice_get cells j ≡ Some k → i ≡ j) → ((j : ℕ) → Has cells j ↔ (group j ≡ Some from))
          → (js : List ℕ) × (length js ≡ n) × IsStack next rest js × ((i j k : ℕ) → slice_get (h ∷ js) i ≡ Some k → slice_get (h ∷ js) j ≡ Some k → i ≡ j) × ((j : ℕ) → Has (h ∷ js) j ↔ (group j ≡ Some from))
      by [] none linked once own = absurd (omega arith)
      by (k ∷ js) len linked once own =
          let same : k ≡ h = sym linked.0 in
          let goes : linked.1 ≡ rest = same_some linked.1 rest (sym linked.2 ∙ ap next same ∙ named) in (
            js,
            omega arith,
            subst (λ x. IsStack next x js) goes linked.3,
            subst (λ x. (i j m : ℕ) → slice_get (x ∷ js) i ≡ Some m → slice_get (x ∷ js) j ≡ Some m → i ≡ j) same once,
            subst (λ x. (j : ℕ) → Has (x ∷ js) j ↔ (group j ≡ Some from)) same own,
          )

  its : (js : List ℕ) × (length js ≡ n) × IsStack next rest js × ((i j k : ℕ) → slice_get (h ∷ js) i ≡ Some k → slice_get (h ∷ js) j ≡ Some k → i ≡ j) × ((j : ℕ) → Has (h ∷ js) j ↔ (group j ≡ Some from))
  its = first_is (are from (h, suc n) of_from)

  h_from : group h ≡ Some from
  h_from = (its.4 h).0 (zero, refl)

  one_group : (j g : ℕ) → group j ≡ Some g → g ≢ from → j ≢ h
  one_group j g is ne same = ne (same_some g from (sym is ∙ ap group same ∙ h_from))

  from_stack : IsStackOf later after from rest n
  from_stack = record {
    cells = its.0;
    many = its.1;
    linked = stack_kept next later rest its.0 (λ j has. others j (λ same. not_first h its.0 its.3 j has (sym same))) its.2;
    once = once_rest h its.0 its.3;
    own = λ j. (
      (λ has. stayed j (λ same. not_first h its.0 its.3 j has (sym same)) ∙ (its.4 j).0 (has_more h j its.0 has)),
      (λ is.
          let ne : j ≢ h = λ same. apart (same_some from to (sym is ∙ ap after same ∙ moved)) in
          elim (has_cases h j its.0 ((its.4 j).1 (sym (stayed j ne) ∙ is))) [
            | inl same ↦ absurd (ne (sym same))
            | inr has ↦ has
          ]),
    );
  }

  to_stack : IsStackOf next group to first many → IsStackOf later after to h (suc many)
  to_stack s = onto next later group after to h first names others moved stayed many s (λ j has. one_group j to ((s.own j).0 has) (λ same. apart (sym same)))

  other_stack : (g : ℕ) (s : ℕ × ℕ) → g ≢ from → g ≢ to → IsStackOf next group g s.0 s.1 → IsStackOf later after g s.0 s.1
  other_stack g s ne ne' x = elsewhere next later group after to h first names others moved stayed g s.0 s.1 ne' x (λ j has. one_group j g ((x.own j).0 has) ne)

  pub shifted : AreStacks later after stacks
  shifted g s h_g = elim (cases_eq g from) [
    | inl same ↦
        let is : s ≡ (rest, n) = same_some s (rest, n) (sym h_g ∙ ap stacks same ∙ now_from) in
        subst (λ (x : ℕ × ℕ). IsStackOf later after g x.0 x.1) (sym is) (subst (λ x. IsStackOf later after x rest n) (sym same) from_stack)
    | inr ne ↦ elim (cases_eq g to) [
      | inl same ↦
          let is : s ≡ (h, suc many) = same_some s (h, suc many) (sym h_g ∙ ap stacks same ∙ now_to) in
          subst (λ (x : ℕ × ℕ). IsStackOf later after g x.0 x.1) (sym is) (subst (λ x. IsStackOf later after x h (suc many)) (sym same) (to_stack (are to (first, many) of_to)))
      | inr ne' ↦ other_stack g s ne ne' (are g s (sym (same_stack g ne ne') ∙ h_g))
    ]
  ]
