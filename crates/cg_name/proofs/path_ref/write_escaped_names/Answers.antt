-- What stood there stays at the front, whatever is behind it.
use Rattle.std.proofs.Common.{◌∷◌, [], ◌∙◌}
use Rattle.cg_name.proofs.Growing.{begins_itself, begins_on, on_err}
use Rattle.cg_name.proofs.path_ref.write_escaped_names.Goals as goal

pub returns-in_err-append_escaped-clause-kept : goal.returns-in_err-append_escaped-clause-kept
returns-in_err-append_escaped-clause-kept c =
    on_err _ _ (begins_on c.args.out.now.items c.loop-name.out.items _ c.loop-name.invariant.kept
    (begins_itself c.loop-name.out.items (47 ∷ []) _ (c.in_err-append_escaped.ensures.err ∙ c.in_ok-push.ensures.items)))
