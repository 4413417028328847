use Rattle.joint_paths.proofs.JoinSteps.{read_numbers}
use Rattle.joint_paths.proofs.tail_floors.numbers_of.Goals as goal

pub returns : goal.returns
returns c = λ path got. read_numbers c.args.bucket.now.paths.now c.args.tail.now.number _ path c.as_slice.result.now c.as_slice.ensures.items got
