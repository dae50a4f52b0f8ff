use Rattle.cg_name.proofs.Growing.{first, more, refused}
use Rattle.cg_script.proofs.history.append_call.Goals as goal

pub returns-in_err-append_request-clause-kept : goal.returns-in_err-append_request-clause-kept
returns-in_err-append_request-clause-kept c =
    let number = more _ (first c.args.out.now.items _ c.in_ok-push.ensures.items) c.in_ok-extend_from_slice.ensures.items in
    let space = more _ number c.in_ok-push-2.ensures.items in
    refused _ space _ c.in_err-append_request.ensures.kept
