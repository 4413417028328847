use Rattle.word_text.proofs.JoinLemmas.{joined_whole}
use Rattle.word_text.proofs.pushes.push_joined.Goals as goal

pub returns : goal.returns
returns c =
    joined_whole c.args.separator c.args.text.now.items c.extend_from_slice.new.self.items c.loop-word.text.items c.args.words.now _ c.loop-word.word-index
    c.in-len1-up.len_at_least c.loop-word-test.false c.in_ok-extend_from_slice.ensures.items c.loop-word.invariant
