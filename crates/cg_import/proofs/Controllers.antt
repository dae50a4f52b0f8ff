-- Controllers that a text names, word by word.
use Rattle.std.proofs.Common.{◌≡◌, ◌↔◌, ◌⊎◌, ℕ, ◌&&◌, Bool, true, false, not, IsTrue, List, [], ◌∷◌, ◌++◌, Contains, refl, sym, ap, subst, ◌∙◌, inl, inr, true≢false}
use mathlib.Core.Bool.{beq}
use Rattle.std.proofs.lemmas.Bool.{and_parts}
use Rattle.std.proofs.lemmas.List.Elements.{Contains-append_left, Contains-push, Contains-push_cases}
use Rattle.cg_name.specs.Controller.{controller_word}
use Rattle.cg_name.specs.declared.controller.Controller.{Controller}
use Rattle.cg_name.specs.declared.controller.Controller.TheVariants.{Cpuset, Cpu, Io, Memory, Hugetlb, Pids, Rdma, Misc}
use Rattle.cg_text.specs.Controllers.{has, such_that}
use Rattle.cg_text.specs.declared.controllers.Controllers.{Controllers}

has_such_that : (f : Controller → Bool) (c : Controller) → has (such_that f) c ≡ f c
has_such_that f Cpuset = refl
has_such_that f Cpu = refl
has_such_that f Io = refl
has_such_that f Memory = refl
has_such_that f Hugetlb = refl
has_such_that f Pids = refl
has_such_that f Rdma = refl
has_such_that f Misc = refl

both : (a b : Bool) → a && not (a && not b) ≡ a && b
both true true = refl
both true false = refl
both false b = refl

-- what a set has but for what it has and another hasn't is what both have
pub has_both : (s t u v : Controllers) → u ≡ such_that (λ c. has s c && not (has t c)) → v ≡ such_that (λ c. has s c && not (has u c)) → (c : Controller) → has v c ≡ has s c && has t c
has_both s t u v e f c =
    ap (λ z. has z c) f
    ∙ has_such_that (λ d. has s d && not (has u d)) c
    ∙ ap (λ z. has s c && not (has z c)) e
    ∙ ap (λ b. has s c && not b) (has_such_that (λ d. has s d && not (has t d)) c)
    ∙ both (has s c) (has t c)

-- the set has the controllers whose names stand among the words
abbrev pub HasNamed : Controllers → List (List ℕ) → Type 0
HasNamed s words = (c : Controller) → IsTrue (has s c) ↔ Contains words (controller_word c)

-- one word more
pub one_named : (s t : Controllers) (words more : List (List ℕ)) (w : List ℕ) → more ≡ words ++ w ∷ [] → HasNamed s words → ((c : Controller) → IsTrue (has t c) ↔ (IsTrue (has s c) ⊎ (w ≡ controller_word c))) → HasNamed t more
one_named s t words more w e h step c = ((λ k. subst (λ ws. Contains ws (controller_word c)) (sym e) (there ((step c).0 k))), (λ k. (step c).1 (back (Contains-push_cases words w (controller_word c) (subst (λ ws. Contains ws (controller_word c)) e k)))))
  where
    there : IsTrue (has s c) ⊎ (w ≡ controller_word c) → Contains (words ++ w ∷ []) (controller_word c)
    there (inl a) = Contains-append_left words (w ∷ []) (controller_word c) ((h c).0 a)
    there (inr b) = subst (λ x. Contains (words ++ x ∷ []) (controller_word c)) (sym b) (Contains-push words (controller_word c))

    back : Contains words (controller_word c) ⊎ (w ≡ controller_word c) → IsTrue (has s c) ⊎ (w ≡ controller_word c)
    back (inl a) = inl ((h c).1 a)
    back (inr b) = inr b

same_bits : (a b : Bool) → beq a b ≡ true → a ≡ b
same_bits true true e = refl
same_bits true false e = absurd (true≢false (sym e))
same_bits false true e = absurd (true≢false (sym e))
same_bits false false e = refl

holds : (b : Bool) → not b ≡ false → b ≡ true
holds true e = refl
holds false e = absurd (true≢false e)

-- sets are equal where the test doesn't tell them apart
pub equal_sets : (s t : Controllers)
    → not (beq s.cpuset t.cpuset && (beq s.cpu t.cpu && (beq s.io t.io && (beq s.memory t.memory && (beq s.hugetlb t.hugetlb && (beq s.pids t.pids && (beq s.rdma t.rdma && beq s.misc t.misc))))))) ≡ false → s ≡ t
equal_sets s t e =
    let a = and_parts (beq s.cpuset t.cpuset) _ (holds _ e) in
    let b = and_parts (beq s.cpu t.cpu) _ a.1 in
    let c = and_parts (beq s.io t.io) _ b.1 in
    let d = and_parts (beq s.memory t.memory) _ c.1 in
    let f = and_parts (beq s.hugetlb t.hugetlb) _ d.1 in
    let g = and_parts (beq s.pids t.pids) _ f.1 in
    let h = and_parts (beq s.rdma t.rdma) _ g.1 in
    λ i. record {
      cpuset = same_bits s.cpuset t.cpuset a.0 i;
      cpu = same_bits s.cpu t.cpu b.0 i;
      io = same_bits s.io t.io c.0 i;
      memory = same_bits s.memory t.memory d.0 i;
      hugetlb = same_bits s.hugetlb t.hugetlb f.0 i;
      pids = same_bits s.pids t.pids g.0 i;
      rdma = same_bits s.rdma t.rdma h.0 i;
      misc = same_bits s.misc t.misc h.1 i;
    }
