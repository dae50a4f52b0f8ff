-- One setting of a group gets a value, and the others stay.
use Rattle.std.proofs.Common.{◌≡◌, true, false, refl, sym, ap, true≢false, Option, Some, None, option_map}
use Rattle.std.specs.Option.{is_some}
use Rattle.cg_text.specs.declared.settings.Settings.{Settings}
use Rattle.cg_model.specs.Key.{Field, Control, Freeze, Cpus, MaxDescendants, MaxDepth, Setting, setting, with_setting, part_replaced, same_field}

pub setting_there : (f : Field) (v : Setting f) (s : Settings) → setting f (with_setting f v s) ≡ v
setting_there Control v s = refl
setting_there Freeze v s = refl
setting_there Cpus v s = refl
setting_there MaxDescendants v s = refl
setting_there MaxDepth v s = refl

setting_back : (f : Field) (v : Setting f) (s : Settings) → with_setting f (setting f s) (with_setting f v s) ≡ s
setting_back Control v s = refl
setting_back Freeze v s = refl
setting_back Cpus v s = refl
setting_back MaxDescendants v s = refl
setting_back MaxDepth v s = refl

setting_kept : (f : Field) (s : Settings) → with_setting f (setting f s) s ≡ s
setting_kept Control s = refl
setting_kept Freeze s = refl
setting_kept Cpus s = refl
setting_kept MaxDescendants s = refl
setting_kept MaxDepth s = refl

setting_swap : (f g : Field) (v : Setting f) (w : Setting g) (s : Settings) → same_field f g ≡ false → with_setting f v (with_setting g w s) ≡ with_setting g w (with_setting f v s)
setting_swap Control Control v w s e = absurd (true≢false e)
setting_swap Freeze Freeze v w s e = absurd (true≢false e)
setting_swap Cpus Cpus v w s e = absurd (true≢false e)
setting_swap MaxDescendants MaxDescendants v w s e = absurd (true≢false e)
setting_swap MaxDepth MaxDepth v w s e = absurd (true≢false e)
setting_swap f g v w s e = refl

setting_other : (f g : Field) (w : Setting g) (s : Settings) → same_field f g ≡ false → setting f (with_setting g w s) ≡ setting f s
setting_other Control Control w s e = absurd (true≢false e)
setting_other Freeze Freeze w s e = absurd (true≢false e)
setting_other Cpus Cpus w s e = absurd (true≢false e)
setting_other MaxDescendants MaxDescendants w s e = absurd (true≢false e)
setting_other MaxDepth MaxDepth w s e = absurd (true≢false e)
setting_other f g w s e = refl

pub part_swap : (f g : Field) (v : Option (Setting f)) (w : Option (Setting g)) (s : Option Settings) → same_field f g ≡ false → part_replaced f v (part_replaced g w s) ≡ part_replaced g w (part_replaced f v s)
part_swap f g v w None e = refl
part_swap f g None None (Some s) e = refl
part_swap f g None (Some w) (Some s) e = refl
part_swap f g (Some v) None (Some s) e = refl
part_swap f g (Some v) (Some w) (Some s) e = ap Some (setting_swap f g v w s e)

pub part_other : (f g : Field) (w : Option (Setting g)) (s : Option Settings) → same_field f g ≡ false → option_map (setting f) (part_replaced g w s) ≡ option_map (setting f) s
part_other f g w None e = refl
part_other f g None (Some s) e = refl
part_other f g (Some w) (Some s) e = ap Some (setting_other f g w s e)

pub part_back : (f : Field) (v : Option (Setting f)) (s : Option Settings) → part_replaced f (option_map (setting f) s) (part_replaced f v s) ≡ s
part_back f v None = refl
part_back f None (Some s) = ap Some (setting_kept f s)
part_back f (Some v) (Some s) = ap Some (setting_back f v s)

pub part_there : (f : Field) (v : Option (Setting f)) (s : Option Settings) → is_some (option_map (setting f) s) ≡ true → is_some v ≡ true → option_map (setting f) (part_replaced f v s) ≡ v
part_there f v None h k = absurd (true≢false (sym h))
part_there f None (Some s) h k = absurd (true≢false (sym k))
part_there f (Some v) (Some s) h k = ap Some (setting_there f v s)
