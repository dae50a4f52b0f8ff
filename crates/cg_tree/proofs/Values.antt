-- What holds of a group's settings, as one of them has another value.
use Rattle.std.proofs.Common.{◌≡◌, true, false, Option, Some, None, IfSome, is_some, option_map, refl, sym}
use Rattle.std.proofs.lemmas.Bool.{false≢true}
use Rattle.cg_text.specs.declared.limit.Limit.TheVariants.{Max, UpTo}
use Rattle.cg_text.specs.declared.settings.Settings.{Settings}
use Rattle.cg_tree.specs.declared.new_value.NewValue.{NewValue}
use Rattle.cg_tree.specs.declared.new_value.NewValue.TheVariants.{Control, Freeze, Cpus, MaxDescendants, MaxDepth}
use Rattle.cg_tree.specs.NewValue.{is_limit, value_there, with_new, HasCpusUpTo}
use Rattle.cg_tree.specs.Unlimited.{IsUnlimited}
use Rattle.cg_world.specs.Representable.{AreCpusUpTo}

-- the group was there
pub was_there : (n : NewValue) (w : Option Settings) → is_some (with_new n w) ≡ true → is_some w ≡ true
was_there n None h = h
was_there n (Some s) h = refl

pub some_before : (n : NewValue) (w : Option Settings) → is_some (option_map (value_there n) w) ≡ is_some w
some_before n None = refl
some_before n (Some s) = refl

pub cpus_in_range : (n : NewValue) (w : Option Settings) → HasCpusUpTo 1023 n → ((s : Settings) → w ≡ Some s → AreCpusUpTo 1023 s.cpus) → IfSome (with_new n w) (λ v. AreCpusUpTo 1023 v.cpus)
cpus_in_range n None new old = tt
cpus_in_range (Control v) (Some s) new old = old s refl
cpus_in_range (Freeze v) (Some s) new old = old s refl
cpus_in_range (Cpus v) (Some s) new old = new
cpus_in_range (MaxDescendants v) (Some s) new old = old s refl
cpus_in_range (MaxDepth v) (Some s) new old = old s refl

pub still_unlimited : (n : NewValue) (w : Option Settings) → (is_some w ≡ true → is_limit n ≡ false) → ((s : Settings) → w ≡ Some s → IsUnlimited s) → IfSome (with_new n w) IsUnlimited
still_unlimited n None none old = tt
still_unlimited (Control v) (Some s) none old = let u = old s refl in record { descendants = u.descendants; depth = u.depth }
still_unlimited (Freeze v) (Some s) none old = let u = old s refl in record { descendants = u.descendants; depth = u.depth }
still_unlimited (Cpus v) (Some s) none old = let u = old s refl in record { descendants = u.descendants; depth = u.depth }
still_unlimited (MaxDescendants Max) (Some s) none old = let u = old s refl in record { descendants = refl; depth = u.depth }
still_unlimited (MaxDescendants (UpTo k)) (Some s) none old = absurd (false≢true (sym (none refl)))
still_unlimited (MaxDepth Max) (Some s) none old = let u = old s refl in record { descendants = u.descendants; depth = refl }
still_unlimited (MaxDepth (UpTo k)) (Some s) none old = absurd (false≢true (sym (none refl)))
