-- Paths of groups that may have processes, kept in a set.
use Rattle.std.proofs.Common.{◌≡◌, Bool, true, false, cond, if◌then◌else◌, List, [], ◌∷◌, ◌++◌, Option, Some, None, IfSome, Bor, refl, sym, ap, subst, ◌∙◌}
use Rattle.std.specs.List.{AllByRecursion, find, list_any}
use Rattle.std.specs.Option.{option_copied, option_map}
use Rattle.std.proofs.lemmas.Option.{none-some, same_Some}
use Rattle.indexmap.specs.IndexSet.{insert_key}

-- what an option holds, where what it maps to is known
pub some_maps : {X Y : Type 0} (S : Type 0) (f : X → Y) (o : Option X) (w : Option Y) → (S → option_map f o ≡ w) → IfSome o (λ x. S → w ≡ Some (f x))
some_maps S f None w h = tt
some_maps S f (Some x) w h = λ s. sym (h s)

pub some_weaker : {X : Type 0} {P Q : X → Type 0} (o : Option X) → ((x : X) → P x → Q x) → IfSome o P → IfSome o Q
some_weaker None by h = tt
some_weaker (Some x) by h = by x h

module _ {K : Type 0} (P : K → Type 0) where
  -- what holds of all keys holds with one key more
  all_pushed : (ks : List K) (k : K) → AllByRecursion P ks → P k → AllByRecursion P (ks ++ k ∷ [])
  all_pushed [] k h new = (new, tt)
  all_pushed (x ∷ ks) k h new = (h.0, all_pushed ks k h.1 new)

  pub all_inserted : (eq : K → K → Bool) (ks all : List K) (k : K) → all ≡ insert_key eq ks k → AllByRecursion P ks → P k → AllByRecursion P all
  all_inserted eq ks all k is h new = subst (AllByRecursion P) (sym is) (elim (list_any (eq k) ks) as (λ b. AllByRecursion P (if b then ks else ks ++ k ∷ [])) [
    | true ↦ h
    | false ↦ all_pushed ks k h new
  ])

  -- and of the one that passes a test
  one_of_all : (test : K → Bool) (ks : List K) (k : K) → find test ks ≡ Some k → AllByRecursion P ks → P k × (test k ≡ true)
  one_of_all test [] k is h = absurd (none-some k is)
  one_of_all test (x ∷ ks) k is h = elim (test x) as (λ b. test x ≡ b → cond b (Some x) (find test ks) ≡ Some k → P k × (test k ≡ true)) [
    | true ↦ λ passes e. let here = same_Some x k e in (subst P here h.0, ap test (sym here) ∙ passes)
    | false ↦ λ _ e. one_of_all test ks k e h.1
  ] refl is

  pub found_of_all : (test : K → Bool) (ks : List K) (o : Option (Bor K)) → option_copied o ≡ find test ks → AllByRecursion P ks → IfSome o (λ kept. P kept.now × (test kept.now ≡ true))
  found_of_all test ks None is h = tt
  found_of_all test ks (Some kept) is h = one_of_all test ks kept.now (sym is) h
