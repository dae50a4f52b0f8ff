-- The least holders of the parts and the list of the others, changed in one part.
use Rattle.std.proofs.Common.{◌≡◌, ℕ, ◌+◌, ◌==◌, ◌&&◌, true, false, cond, T, List, [], refl, sym, ap, subst, ◌∙◌, arith}
use Rattle.std.specs.FinMap.Entries.{is_sorted}
use Rattle.std.specs.Ordering.{nat_cmp}
use Rattle.cg_maps.specs.FiniteMap.{from_entries}
use Rattle.cg_locks.specs.declared.first_holders.First.{First}
use Rattle.cg_locks.specs.declared.first_holders.Firsts.{Firsts}
use Rattle.cg_locks.specs.declared.held.Part.{Part}
use Rattle.cg_locks.specs.declared.held.Part.TheVariants.{ChangedAt, ReadAt, StaysAt, CountedAt, ChangedBelow, ReadBelow, StaysBelow}
use Rattle.cg_locks.specs.declared.other_holders.Other.{Other}
use Rattle.cg_locks.specs.FirstsAndOthers.{first_in, held_parts, holders_in, others_in, AreParts}
use Rattle.cg_locks.specs.Held.{part_of, same_part, HeldParts, IsHeldMore}
use Rattle.cg_locks.specs.Holders.{all_holders, held_by, one, AreHolders}
use Rattle.cg_locks.proofs.Firsts.{none_held, none_yet, rest_sorted}
use Rattle.cg_locks.proofs.Parts.{same_part-is, same_part-itself}

pub part_kept : (r : Part) (F : Firsts) (es : List Other) → part_of r (held_parts F es) ≡ holders_in r F es
part_kept ChangedAt F es = refl
part_kept ReadAt F es = refl
part_kept StaysAt F es = refl
part_kept CountedAt F es = refl
part_kept ChangedBelow F es = refl
part_kept ReadBelow F es = refl
part_kept StaysBelow F es = refl

abbrev first : ℕ → ℕ → First
first g m = record { holder = g; times = m }

-- in the one part the least is another, or the others are
pub record IsPartPut (s : Part) (F : Firsts) (es : List Other) (F' : Firsts) (es' : List Other) (g m : ℕ) (fs : List (ℕ × ℕ)) : Type 0 where
  pub least : first_in s F' ≡ first g m
  pub others : others_in s es' ≡ fs
  pub other_least : (r : Part) → same_part r s ≡ false → first_in r F' ≡ first_in r F
  pub other_others : (r : Part) → same_part r s ≡ false → others_in r es' ≡ others_in r es

pub least_put : (s : Part) (F : Firsts) (es : List Other) (F' : Firsts) (es' : List Other) (g m : ℕ) (fs : List (ℕ × ℕ)) → ((r : Part) → first_in r F' ≡ cond (same_part r s) (first g m) (first_in r F)) → others_in s es' ≡ fs
    → ((r : Part) → same_part r s ≡ false → others_in r es' ≡ others_in r es) → IsPartPut s F es F' es' g m fs
least_put s F es F' es' g m fs put others apart = record {
  least = put s ∙ ap (λ b. cond b (first g m) (first_in s F)) (same_part-itself s);
  others = others;
  other_least = λ r ne. put r ∙ ap (λ b. cond b (first g m) (first_in r F)) ne;
  other_others = apart;
}

module _ (s : Part) (F : Firsts) (es : List Other) (h : AreParts F es) where
  -- as it is read
  module _ (x : First) (is : x ≡ first_in s F) where
    pub are_holders : AreHolders x.holder x.times (others_in s es)
    are_holders = subst (λ (y : First). AreHolders y.holder y.times (others_in s es)) (sym is) (h s)

    pub others_put : (es' : List Other) → ((r : Part) → same_part r s ≡ false → others_in r es' ≡ others_in r es) → IsPartPut s F es F es' x.holder x.times (others_in s es')
    others_put es' apart = record {
      least = sym is;
      others = refl;
      other_least = λ r ne. refl;
      other_others = apart;
    }

    pub as_seen : (V : HeldParts) → held_parts F es ≡ V → from_entries nat_cmp (all_holders x.holder x.times (others_in s es)) ≡ part_of s V
    as_seen V view = ap (λ (y : First). from_entries nat_cmp (all_holders y.holder y.times (others_in s es))) is ∙ sym (part_kept s F es) ∙ ap (part_of s) view

  module _ (F' : Firsts) (es' : List Other) (g m : ℕ) (fs : List (ℕ × ℕ)) (put : IsPartPut s F es F' es' g m fs) where
    pub parts_put : AreHolders g m fs → AreParts F' es'
    parts_put own r = elim (same_part r s) as (λ b. same_part r s ≡ b → AreHolders (first_in r F').holder (first_in r F').times (others_in r es')) [
      | true ↦ λ e. subst (λ q. AreHolders (first_in q F').holder (first_in q F').times (others_in q es')) (sym (same_part-is r s e))
          (subst (λ (y : First). AreHolders y.holder y.times (others_in s es')) (sym put.least) (subst (AreHolders g m) (sym put.others) own))
      | false ↦ λ e. subst (λ (y : First). AreHolders y.holder y.times (others_in r es')) (sym (put.other_least r e))
          (subst (AreHolders (first_in r F).holder (first_in r F).times) (sym (put.other_others r e)) (h r))
    ] refl

    module _ (V : HeldParts) (view : held_parts F es ≡ V) (t : ℕ) where
      own_part : part_of s (held_parts F' es') ≡ from_entries nat_cmp (all_holders g m fs)
      own_part =
          part_kept s F' es'
          ∙ ap (λ (y : First). from_entries nat_cmp (all_holders y.holder y.times (others_in s es'))) put.least ∙ ap (λ os. from_entries nat_cmp (all_holders g m os)) put.others

      other_part : (r : Part) → same_part r s ≡ false → part_of r (held_parts F' es') ≡ part_of r V
      other_part r ne =
          part_kept r F' es'
          ∙ ap (λ (y : First). from_entries nat_cmp (all_holders y.holder y.times (others_in r es'))) (put.other_least r ne)
          ∙ ap (λ os. from_entries nat_cmp (all_holders (first_in r F).holder (first_in r F).times os)) (put.other_others r ne)
          ∙ sym (part_kept r F es) ∙ ap (part_of r) view

      pub more_put : ((u : ℕ) → held_by (from_entries nat_cmp (all_holders g m fs)) u ≡ held_by (part_of s V) u + one (u == t)) → IsHeldMore V s t (held_parts F' es')
      more_put more r u = elim (same_part r s) as (λ b. same_part r s ≡ b → held_by (part_of r (held_parts F' es')) u ≡ held_by (part_of r V) u + one (b && (u == t))) [
        | true ↦ λ e. subst (λ q. held_by (part_of q (held_parts F' es')) u ≡ held_by (part_of q V) u + one (u == t)) (sym (same_part-is r s e)) (ap (λ C. held_by C u) own_part ∙ more u)
        | false ↦ λ e. let same = ap (λ C. held_by C u) (other_part r e) in omega (arith, same)
      ] refl

      pub less_put : ((u : ℕ) → held_by (part_of s V) u ≡ held_by (from_entries nat_cmp (all_holders g m fs)) u + one (u == t)) → IsHeldMore (held_parts F' es') s t V
      less_put less r u = elim (same_part r s) as (λ b. same_part r s ≡ b → held_by (part_of r V) u ≡ held_by (part_of r (held_parts F' es')) u + one (b && (u == t))) [
        | true ↦ λ e. subst (λ q. held_by (part_of q V) u ≡ held_by (part_of q (held_parts F' es')) u + one (u == t)) (sym (same_part-is r s e)) (less u ∙ ap (λ C. held_by C u + one (u == t)) (sym own_part))
        | false ↦ λ e. let same = ap (λ C. held_by C u) (other_part r e) in omega (arith, same)
      ] refl

-- ---- one part alone

pub part_sorted : (s : Part) (F : Firsts) (es : List Other) → AreParts F es → (xs : List Other) → xs ≡ es → T (is_sorted nat_cmp (others_in s xs))
part_sorted s F es h xs same = subst (λ ys. T (is_sorted nat_cmp (others_in s ys))) (sym same) (rest_sorted (first_in s F).holder (first_in s F).times (others_in s es) (h s))

-- ---- nobody in any part

pub none_kept : (F : Firsts) (es : List Other) → ((r : Part) → (first_in r F).times ≡ 0) → es ≡ [] → AreParts F es
none_kept F es none empty r = subst (λ n. AreHolders (first_in r F).holder n (others_in r es)) (sym (none r)) (none_yet (first_in r F).holder (others_in r es) (ap (others_in r) empty))

pub nobody : (F : Firsts) (es : List Other) → AreParts F es → (V : HeldParts) → held_parts F es ≡ V → ((r : Part) → (first_in r F).times ≡ 0) → (r : Part) (u : ℕ) → held_by (part_of r V) u ≡ 0
nobody F es h V view none r u = none_held (first_in r F).holder (first_in r F).times (others_in r es) (h r) (part_of r V) (as_seen r F es h (first_in r F) refl V view) u (none r)

-- nobody in one part
pub nobody_in : (s : Part) (F : Firsts) (es : List Other) → AreParts F es → (V : HeldParts) → held_parts F es ≡ V → (x : First) → x ≡ first_in s F → x.times ≡ 0 → (u : ℕ) → held_by (part_of s V) u ≡ 0
nobody_in s F es h V view x is none u = none_held x.holder x.times (others_in s es) (are_holders s F es h x is) (part_of s V) (as_seen s F es h x is V view) u none
