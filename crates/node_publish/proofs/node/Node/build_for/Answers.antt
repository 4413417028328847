use Rattle.std.proofs.Common.{sym}
use Rattle.node_publish.proofs.Keeping.{key_like}
use Rattle.node_publish.proofs.node.Node.build_for.Goals as goal

pub build-requires : goal.build-requires
build-requires c = key_like c.args.key.now _ (sym c.in_ok-key.ensures) c.requires
