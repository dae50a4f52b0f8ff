-- A command is refused by its own checks alone.
use Rattle.std.proofs.Common.{◌≡◌, true, subst}
use Rattle.cg_model.specs.System.{Refuse, Accept}
use Rattle.cg_model.specs.Command.{Command, Effect}
use Rattle.cg_model.specs.History.{is_own_check}
use Rattle.cg_model_laws.specs.Laws.{OwnChecks}
use Rattle.cg_model_laws.proofs.EachCommand.{EachCommand, of_each}

abbrev IsOwn : Command → Effect → Type 0
IsOwn c (Refuse r) = is_own_check r ≡ true
IsOwn c (Accept o cs) = Unit {0}

pub own_checks : OwnChecks
own_checks c T r e =
    let own : EachCommand T IsOwn = record {
      refused = λ c r own. own;
      created = λ n p u e g. tt;
      removed = λ n p s e x y. tt;
      moved = λ k p q s e g a. tt;
      controls = λ p ops s a e g x y z. tt;
      freezes = λ n p v s e. tt;
      asks = λ n p v s e g. tt;
      shows = λ p f text. tt;
      goes_online = λ v. tt;
      limits_descendants = λ p v s e. tt;
      limits_depth = λ p v s e. tt;
    } in
    subst (IsOwn c) e (of_each T IsOwn own c)
