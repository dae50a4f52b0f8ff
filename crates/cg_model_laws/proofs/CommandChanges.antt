-- The changes of each accepted command are lawful under its footprint.
use Rattle.std.proofs.Common.{◌≡◌, [], ◌∷◌, Some, None}
use Rattle.cg_name.specs.Path.{Path}
use Rattle.cg_text.specs.Settings.{fresh}
use Rattle.cg_text.specs.declared.settings.Settings.{Settings}
use Rattle.cg_model.specs.Tree.{Tree, group}
use Rattle.cg_model.specs.Key as keys
use Rattle.cg_model.specs.Key.{Field, Setting, Group, Place, Part}
use Rattle.cg_model.specs.Control.{planned}
use Rattle.cg_model.specs.Writes.{written}
use Rattle.cg_model.specs.Command.{Command, Effect}
use Rattle.cg_model.specs.Effect.{effect}
use Rattle.cg_model.specs.Footprint.{X, footprint}
use Rattle.cg_model_laws.proofs.EachCommand.{EachCommand, of_each}
use Rattle.cg_model_laws.proofs.Lawful.{IsLawful}
use Rattle.cg_model_laws.proofs.IfAccepted.{IfAccepted}
use Rattle.cg_model_laws.proofs.SinglePuts.{lawful_alone, part_put, group_put, place_put, online_put}
use Rattle.cg_model_laws.proofs.SubtreeChanges.{control_lawful}

module _ (T : Tree) where
  abbrev IsLawfulCommand : Command → Effect → Type 0
  IsLawfulCommand c e = IfAccepted e (IsLawful (footprint c T) T)

  written_lawful : (p : Path) (f : Field) (v : Setting f) (s : Settings) → group T p ≡ Some s → IfAccepted (written p f v s) (IsLawful (X p ∷ []) T)
  written_lawful p f v s e = lawful_alone T _ (Part p f) _ _ (part_put T p f v s e)

  each_lawful : EachCommand T IsLawfulCommand
  unfolding footprint
  each_lawful = record {
    refused = λ c r own. tt;
    created = λ n p u e g. lawful_alone T _ (Group (n ∷ p)) None (Some fresh) (group_put T (n ∷ p) None (Some fresh) e);
    removed = λ n p s e x y. lawful_alone T _ (Group (n ∷ p)) (Some s) None (group_put T (n ∷ p) (Some s) None e);
    moved = λ k p q s e g a. lawful_alone T _ (Place k) (Some q) (Some p) (place_put T k p q e);
    controls = λ p ops s a e g x y z. control_lawful T p s (planned s.control ops) e;
    freezes = λ n p v s e. written_lawful (n ∷ p) keys.Freeze v s e;
    asks = λ n p v s e g. written_lawful (n ∷ p) keys.Cpus v s e;
    shows = λ p f text. tt;
    goes_online = λ v. lawful_alone T _ keys.Online _ _ (online_put T v);
    limits_descendants = λ p v s e. written_lawful p keys.MaxDescendants v s e;
    limits_depth = λ p v s e. written_lawful p keys.MaxDepth v s e;
  }

  -- the changes of a command that is accepted
  pub command_lawful : (c : Command) → IfAccepted (effect c T) (IsLawful (footprint c T) T)
  command_lawful c = of_each T IsLawfulCommand each_lawful c
