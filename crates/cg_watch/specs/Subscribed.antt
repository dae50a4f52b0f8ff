-- Watches on their way through a run.
use Rattle.std.specs.Prelude.{◌≡◌, ◌⊎◌, ℕ, List, Option, Some, None}
use Rattle.cg_view.specs.Viewers.{seen_by}
use Rattle.cg_view.specs.Views.{newcomer}
use Rattle.cg_view.specs.declared.rule.View.{View}
use Rattle.cg_watch.specs.Watches.{HasTold, HasToldSince, HasToldWhole}
use Rattle.cg_watch.specs.declared.watch.Subscription.{Subscription}
use Rattle.cg_watch.specs.declared.watch.Watch.{Watch}

-- what was seen through a subscription, if there is one
abbrev pub seen_through : Option Subscription → View
seen_through None = newcomer
seen_through (Some s) = seen_by s.viewer

-- it has told whole lines of what was seen through its subscription, or has none
abbrev pub IsSubscribed : {S : Type 0} → (S → Option (List ℕ)) → Watch S → Watch S → Type 0
IsSubscribed taken old new = HasToldWhole taken newcomer (seen_through new.subscription) old new ⊎ (HasTold taken old new × (new.subscription ≡ None))

-- it tells what it sees through its subscription, where it has one
pub record Follows {S : Type 0} (taken : S → Option (List ℕ)) (old new : Watch S) : Type 0 where
  pub tells : HasToldSince taken (seen_through old.subscription) old new
  pub unsubscribed : old.subscription ≡ None → new.sink ≡ old.sink
