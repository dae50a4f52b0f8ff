-- Parts of what is held at a path, told apart, and one of them changed.
use Rattle.std.proofs.Common.{◌≡◌, ◌==◌, true, false, Some, refl, subst}
use Rattle.std.proofs.lemmas.Bool.{false≢true}
use Rattle.std.proofs.lemmas.Option.{none-some, same_Some}
use Rattle.cg_locks.specs.declared.held.Kind.{Kind}
use Rattle.cg_locks.specs.declared.held.Kind.TheVariants as kinds
use Rattle.cg_locks.specs.declared.held.Part.{Part}
use Rattle.cg_locks.specs.declared.held.Part.TheVariants.{ChangedAt, ReadAt, StaysAt, CountedAt, ChangedBelow, ReadBelow, StaysBelow}
use Rattle.cg_locks.specs.Held.{at_or_below, at_path, part_number, same_kind, same_part}

pub same_part-itself : (r : Part) → same_part r r ≡ true
same_part-itself ChangedAt = refl
same_part-itself ReadAt = refl
same_part-itself StaysAt = refl
same_part-itself CountedAt = refl
same_part-itself ChangedBelow = refl
same_part-itself ReadBelow = refl
same_part-itself StaysBelow = refl

pub same_part-is : (r s : Part) → same_part r s ≡ true → r ≡ s
same_part-is ChangedAt ChangedAt e = refl
same_part-is ReadAt ReadAt e = refl
same_part-is StaysAt StaysAt e = refl
same_part-is CountedAt CountedAt e = refl
same_part-is ChangedBelow ChangedBelow e = refl
same_part-is ReadBelow ReadBelow e = refl
same_part-is StaysBelow StaysBelow e = refl
same_part-is r s e = absurd (false≢true e)

pub same_numbers : (r s : Part) → (part_number r == part_number s) ≡ same_part r s
same_numbers ChangedAt ChangedAt = refl
same_numbers ReadAt ReadAt = refl
same_numbers StaysAt StaysAt = refl
same_numbers CountedAt CountedAt = refl
same_numbers ChangedBelow ChangedBelow = refl
same_numbers ReadBelow ReadBelow = refl
same_numbers StaysBelow StaysBelow = refl
same_numbers r s = refl

-- ---- the parts of a kind

pub same_kinds : (j k : Kind) → same_part (at_path j) (at_path k) ≡ same_kind j k
same_kinds kinds.Changed kinds.Changed = refl
same_kinds kinds.Read kinds.Read = refl
same_kinds kinds.Stays kinds.Stays = refl
same_kinds kinds.Descendants kinds.Descendants = refl
same_kinds j k = refl

-- how the parts of a kind with a part below lie to the others
pub record IsAligned (k : Kind) (b : Part) : Type 0 where
  pub apart : (j : Kind) → same_part (at_path j) b ≡ false
  pub other : same_part b (at_path k) ≡ false
  pub changed : same_part ChangedBelow b ≡ same_part ChangedAt (at_path k)
  pub read : same_part ReadBelow b ≡ same_part ReadAt (at_path k)
  pub stays : same_part StaysBelow b ≡ same_part StaysAt (at_path k)
  pub no_changed : same_part ChangedBelow (at_path k) ≡ false
  pub no_read : same_part ReadBelow (at_path k) ≡ false
  pub no_stays : same_part StaysBelow (at_path k) ≡ false

at_not_changed : (j : Kind) → same_part (at_path j) ChangedBelow ≡ false
at_not_changed kinds.Changed = refl
at_not_changed j = refl

at_not_read : (j : Kind) → same_part (at_path j) ReadBelow ≡ false
at_not_read kinds.Changed = refl
at_not_read j = refl

at_not_stays : (j : Kind) → same_part (at_path j) StaysBelow ≡ false
at_not_stays kinds.Changed = refl
at_not_stays j = refl

pub aligned : (k : Kind) (b : Part) → at_or_below k ≡ Some b → IsAligned k b
aligned kinds.Changed b e = subst (IsAligned kinds.Changed) (same_Some ChangedBelow b e) (record {
  apart = at_not_changed;
  other = refl;
  changed = refl;
  read = refl;
  stays = refl;
  no_changed = refl;
  no_read = refl;
  no_stays = refl;
})
aligned kinds.Read b e = subst (IsAligned kinds.Read) (same_Some ReadBelow b e) (record {
  apart = at_not_read;
  other = refl;
  changed = refl;
  read = refl;
  stays = refl;
  no_changed = refl;
  no_read = refl;
  no_stays = refl;
})
aligned kinds.Stays b e = subst (IsAligned kinds.Stays) (same_Some StaysBelow b e) (record {
  apart = at_not_stays;
  other = refl;
  changed = refl;
  read = refl;
  stays = refl;
  no_changed = refl;
  no_read = refl;
  no_stays = refl;
})
aligned kinds.Descendants b e = absurd (none-some b e)
