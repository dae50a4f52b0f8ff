use Rattle.std.proofs.Common.{◌++◌, codes, append_assoc}
use Rattle.cg_world_text.specs.Version.{version_word}
use Rattle.cg_world_text.specs.World.{newline}
use Rattle.cg_name.proofs.Growing.{first, more, refused}
use Rattle.cg_world_text.proofs.writing.append_head.Goals as goal

pub returns-in_err-append_names-clause-kept : goal.returns-in_err-append_names-clause-kept
returns-in_err-append_names-clause-kept c =
    let version = first c.args.out.now.items (codes "world " ++ version_word c.args.version ++ newline) c.in_ok-append_version.ensures.ok in
    let word = more (codes "controllers") version c.in_ok-extend_from_slice.ensures.items in
    refused _ word _ c.in_err-append_names.ensures.kept

pub returns-clause-ok : goal.returns-clause-ok
returns-clause-ok c = simp (c.in_ok-push.ensures.items, c.in_ok-write.ensures.ok, c.in_ok-extend_from_slice-2.ensures.items, c.in_ok-append_names.ensures.ok, c.in_ok-extend_from_slice.ensures.items, c.in_ok-append_version.ensures.ok, append_assoc)
