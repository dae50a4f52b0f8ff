use Rattle.std.proofs.Common.{◌≡◌, ◌∙◌, Option, Some, None, OnSome, refl, sym, ap}
use Rattle.std.proofs.lemmas.Option.{none-some}
use Rattle.std.specs.Borrow.{MutBor}
use Rattle.std.specs.Option.{ghost_name_of, option_copied_mut}
use Rattle.cg_history.specs.SessionMap.{found, with_value}
use Rattle.cg_history.proofs.BySession.{found_is}
use Rattle.cg_history.proofs.Places.{found_there, written_is_there, written_once_there}
use Rattle.cg_history.proofs.session_map.SessionMap.get_mut.Goals as goal

on_some : {A P : Type 0} (r : Option (MutBor A)) → P → OnSome r P
on_some None p = tt
on_some (Some x) p = p

on_none : {A : Type 0} (r : Option (MutBor A)) (P : Type 0) → r ≡ None → OnSome r P
on_none None P e = tt
on_none (Some x) P e = absurd (none-some x (sym e))

-- ---- where it stood when it was found last

pub invariant_of-self-lent : goal.invariant_of-self-lent
invariant_of-self-lent g c = λ _. (
  (λ w. written_once_there c.args.session w c.self.inside.entries.entries c.get-recent.result c.self.invariant (c.is_at.ensures c.if-is_at.true)),
  c.self.invariant,
)

pub returns-then-is_at : goal.returns-then-is_at
returns-then-is_at g c = (
  (
    refl,
    (λ w. on_some c.get_index_mut.result (
        written_is_there c.args.session w c.self.inside.entries.entries c.get-recent.result c.self.invariant (c.is_at.ensures c.if-is_at.true)
        ∙ ap (with_value c.args.session.0 w) c.self.view_is)),
    c.self.view_is,
  ),
  record {
    writes_back = tt;
    value = c.get_index_mut.ensures.value
        ∙ found_there c.args.session c.self.inside.entries.entries c.get-recent.result c.self.invariant (c.is_at.ensures c.if-is_at.true)
        ∙ ap (found c.args.session.0) c.self.view_is;
  },
)

-- ---- elsewhere

pub returns-in_err-place : goal.returns-in_err-place
returns-in_err-place g c = (
  (
    sym (ap ghost_name_of c.from_residual.ensures),
    (λ w. on_none c.from_residual.result _ c.from_residual.ensures),
    c.self.view_is,
  ),
  record {
    writes_back = tt;
    value = ap option_copied_mut c.from_residual.ensures
        ∙ sym c.in_err-place.ensures.none
        ∙ found_is c.args.session.0 c.self.inside.entries.entries c.self.invariant
        ∙ ap (found c.args.session.0) c.self.view_is;
  },
)

pub invariant_of-self-lent-2 : goal.invariant_of-self-lent-2
invariant_of-self-lent-2 g c = λ _. (
  (λ w. written_once_there c.args.session w c.self.inside.entries.entries c.in_ok-place.place c.self.invariant c.in_ok-place.ensures.place),
  c.self.invariant,
)

pub returns : goal.returns
returns g c = (
  (
    refl,
    (λ w. on_some c.get_index_mut-2.result (
        written_is_there c.args.session w c.self.inside.entries.entries c.in_ok-place.place c.self.invariant c.in_ok-place.ensures.place
        ∙ ap (with_value c.args.session.0 w) c.self.view_is)),
    c.self.view_is,
  ),
  record {
    writes_back = tt;
    value = c.get_index_mut-2.ensures.value
        ∙ found_there c.args.session c.self.inside.entries.entries c.in_ok-place.place c.self.invariant c.in_ok-place.ensures.place
        ∙ ap (found c.args.session.0) c.self.view_is;
  },
)
