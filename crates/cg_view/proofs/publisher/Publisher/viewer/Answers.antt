use Rattle.cg_view.proofs.Grows.{admits}
use Rattle.cg_view.proofs.publisher.Publisher.viewer.Goals as goal

pub reader-requires : goal.reader-requires
reader-requires c = admits
