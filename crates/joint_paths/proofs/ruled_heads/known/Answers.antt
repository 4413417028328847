use Rattle.std.proofs.Common.{◌<◌, length, arith}
use Rattle.std.proofs.lemmas.Bool.Decides.{nat_tests}
use Rattle.law_lemmas.proofs.Members.{read_in}
use Rattle.joint_paths.proofs.ruled_heads.known.Goals as goal

pub returns-then-is_same : goal.returns-then-is_same
returns-then-is_same c =
    let of = c.args.of.now in
    let l = c.in_ok-ruled.ensures.lookup in
    let t = l.0 in
    let lt : c.in_ok-at.at < length of = grind (arith, nat_tests, t) in
    (read_in of c.in_ok-at.at c.in_ok-ruled.ruled.now c.in_ok-ruled.ruled.now lt l.1, c.is_same.ensures c.if-is_same.true)
