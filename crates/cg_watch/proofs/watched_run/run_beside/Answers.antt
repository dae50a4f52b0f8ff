use Rattle.std.proofs.Common.{◌≡◌, ◌++◌, IfOk, length, take, drop, ap, arith, of_calls, rules, subst, sym}
use Rattle.std.specs.List.{AllZip}
use Rattle.cg_runner.specs.Closed.{HaveHappened, IsClosed}
use Rattle.cg_runner.specs.End.{CanEnd}
use Rattle.cg_watch.proofs.Telling.{all_left, subscribed_and_followed, zip_through}
use Rattle.cg_watch.specs.Watches.{HasTold}
use Rattle.cg_watch.specs.Subscribed.{Follows, IsSubscribed}
use Rattle.cg_watch.proofs.watched_run.run_beside.Goals as goal

-- each watch was subscribed, and followed then by a call of the first closure
pub returns-clause-told : goal.returns-clause-told
returns-clause-told g c =
    let taken = g.S.Sink.taken in
    let watches = c.args.watches.now.items in
    let subscribed = c.subscribe_all-senders.new.watches in
    let left = c.join-seen.result.0.items in
    let first : AllZip (IsSubscribed taken) watches subscribed = subst (λ l. AllZip (IsSubscribed taken) l subscribed) c.as_mut_slice.ensures.value c.subscribe_all-senders.ensures in
    let behind : AllZip (Follows taken) c.replace-subscribed.result.items left = (let call = c.join-seen.ensures.first in search (rules, of_calls)) in
    let lent : take c.args.watches.now.len (subscribed ++ drop (length subscribed) watches) ≡ subscribed =
    all_left watches subscribed c.args.watches.now.len (omega (arith, ap length c.as_mut_slice.ensures.value)) (omega arith) in
    let then : AllZip (Follows taken) subscribed left =
    subst (λ l. AllZip (Follows taken) l left) lent (subst (λ v. AllZip (Follows taken) v.items left) c.replace-subscribed.ensures.value behind) in
    zip_through (IsSubscribed taken) (Follows taken) (HasTold taken) (subscribed_and_followed taken) watches subscribed left first then

-- how the run ended is what the second closure gives: the result of its call
pub returns-clause-ends : goal.returns-clause-ends
returns-clause-ends g c =
    let run = c.join-seen.ensures.second.said-raw.1.1.1 in
    subst (λ e. IfOk e (λ r. AllZip (CanEnd c.args.tries) c.args.scripts.items r.ends.items)) (sym run.1) run.0.ensures.0

pub returns-clause-happened : goal.returns-clause-happened
returns-clause-happened g c =
    let run = c.join-seen.ensures.second.said-raw.1.1.1 in
    subst (λ e. IfOk e (λ r. HaveHappened c.args.workers c.args.tries c.args.scripts.items r.ends.items r.core.history)) (sym run.1) run.0.ensures.1.0

pub returns-clause-closed : goal.returns-clause-closed
returns-clause-closed g c =
    let run = c.join-seen.ensures.second.said-raw.1.1.1 in
    subst (λ e. IfOk e (λ r. IsClosed c.args.workers r.core.history)) (sym run.1) run.0.ensures.1.1
