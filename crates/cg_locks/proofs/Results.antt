-- Results that are no errors.
use Rattle.std.proofs.Common.{◌≡◌, true, false, sym, OnErr, OnOk}
use Rattle.std.proofs.lemmas.Bool.{false≢true}
use Rattle.std.specs.declared.result.Result.{Result}
use Rattle.std.specs.declared.result.Result.TheVariants.{Ok, Err}
use Rattle.std.specs.Result.{is_err}

pub went_well : {A E P : Type 0} (r : Result A E) → is_err r ≡ false → OnOk r P → P
went_well (Ok x) e h = h
went_well (Err x) e h = absurd (false≢true (sym e))

pub went_wrong : {A E P : Type 0} (r : Result A E) → is_err r ≡ true → OnErr r P → P
went_wrong (Ok x) e h = absurd (false≢true e)
went_wrong (Err x) e h = h

pub after_err : {A E P : Type 0} (r : Result A E) → P → OnErr r P
after_err (Ok x) h = tt
after_err (Err x) h = h

-- what comes of both
pub either_way : {A E P Q S : Type 0} (r : Result A E) → OnOk r P → OnErr r Q → (P → S) → (Q → S) → S
either_way (Ok x) h k f g = f h
either_way (Err x) h k f g = g k
