-- A change is data: the code by which a proof tells two apart.
use Rattle.std.specs.Prelude.{◌≡◌, ◌⊎◌, ℕ, Bool, Option, refl}
use Rattle.std.specs.Coded.{Coded, code_by, coded×, coded⊎, coded_ℕ, coded_bool, coded_option}
use mathlib.Core.Logic.{inl, inr}
use Rattle.cg_maps.specs.Code.{set_code}
use Rattle.cg_maps.specs.FiniteSet.{FiniteSet}
use Rattle.cg_name.specs.Path.{Path}
use Rattle.cg_text.specs.declared.controllers.Controllers.{Controllers}
use Rattle.cg_text.specs.declared.limit.Limit.{Limit}
use Rattle.cg_text.specs.declared.settings.Settings.{Settings}
use Rattle.cg_model.specs.Change.{Change, change}
use Rattle.cg_model.specs.Code.{controllers_code, limit_code, path_code, settings_code}
use Rattle.cg_model.specs.Key.{Key, ValueOf, Group, Place, Part, Online, Control, Freeze, Cpus, MaxDescendants, MaxDepth}

-- one kind of change for each kind of key: where it is, and the values before and left
abbrev Shape : Type 0
Shape =
    (Path × (Option Settings × Option Settings))
    ⊎ ((ℕ × (Option Path × Option Path))
    ⊎ ((Path × (Option Controllers × Option Controllers))
    ⊎ ((Path × (Option Bool × Option Bool))
    ⊎ ((Path × (Option FiniteSet × Option FiniteSet))
    ⊎ ((Path × (Option Limit × Option Limit))
    ⊎ ((Path × (Option Limit × Option Limit))
    ⊎ (Option FiniteSet × Option FiniteSet)))))))

abbrev shape_code : Coded Shape
shape_code =
    coded⊎ (coded× path_code (coded× (coded_option settings_code) (coded_option settings_code)))
    (coded⊎ (coded× coded_ℕ (coded× (coded_option path_code) (coded_option path_code)))
    (coded⊎ (coded× path_code (coded× (coded_option controllers_code) (coded_option controllers_code)))
    (coded⊎ (coded× path_code (coded× (coded_option coded_bool) (coded_option coded_bool)))
    (coded⊎ (coded× path_code (coded× (coded_option set_code) (coded_option set_code)))
    (coded⊎ (coded× path_code (coded× (coded_option limit_code) (coded_option limit_code)))
    (coded⊎ (coded× path_code (coded× (coded_option limit_code) (coded_option limit_code)))
    (coded× (coded_option set_code) (coded_option set_code))))))))

abbrev shape : (k : Key) → Option (ValueOf k) → Option (ValueOf k) → Shape
shape (Group p) b l = inl (p, (b, l))
shape (Place k) b l = inr (inl (k, (b, l)))
shape (Part p Control) b l = inr (inr (inl (p, (b, l))))
shape (Part p Freeze) b l = inr (inr (inr (inl (p, (b, l)))))
shape (Part p Cpus) b l = inr (inr (inr (inr (inl (p, (b, l))))))
shape (Part p MaxDescendants) b l = inr (inr (inr (inr (inr (inl (p, (b, l)))))))
shape (Part p MaxDepth) b l = inr (inr (inr (inr (inr (inr (inl (p, (b, l))))))))
shape Online b l = inr (inr (inr (inr (inr (inr (inr (b, l)))))))

abbrev of_shape : Shape → Change
of_shape (inl x) = change (Group x.0) x.1.0 x.1.1
of_shape (inr (inl x)) = change (Place x.0) x.1.0 x.1.1
of_shape (inr (inr (inl x))) = change (Part x.0 Control) x.1.0 x.1.1
of_shape (inr (inr (inr (inl x)))) = change (Part x.0 Freeze) x.1.0 x.1.1
of_shape (inr (inr (inr (inr (inl x))))) = change (Part x.0 Cpus) x.1.0 x.1.1
of_shape (inr (inr (inr (inr (inr (inl x)))))) = change (Part x.0 MaxDescendants) x.1.0 x.1.1
of_shape (inr (inr (inr (inr (inr (inr (inl x))))))) = change (Part x.0 MaxDepth) x.1.0 x.1.1
of_shape (inr (inr (inr (inr (inr (inr (inr x))))))) = change Online x.0 x.1

pub shape_back : (k : Key) (b l : Option (ValueOf k)) → of_shape (shape k b l) ≡ change k b l
shape_back (Group p) b l = refl
shape_back (Place k) b l = refl
shape_back (Part p Control) b l = refl
shape_back (Part p Freeze) b l = refl
shape_back (Part p Cpus) b l = refl
shape_back (Part p MaxDescendants) b l = refl
shape_back (Part p MaxDepth) b l = refl
shape_back Online b l = refl

abbrev pub change_code : Coded Change
change_code = code_by Shape shape_code (λ c. shape c.key c.before c.left) of_shape (λ c. shape_back c.key c.before c.left)
