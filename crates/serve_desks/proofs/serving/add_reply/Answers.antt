use Rattle.std.proofs.Common.{◌∙◌, subst, sym}
use Rattle.serve_desks.specs.Served.{AllName, Names}
use Rattle.serve_desks.specs.Terms.{IsRight, Terms}
use Rattle.serve_desks.specs.declared.log.Entry.{Entry}
use Rattle.serve_desks.proofs.EachLemmas.{each_and}
use Rattle.serve_desks.proofs.Names.{all_more, names_now}
use Rattle.serve_desks.proofs.serving.add_reply.Goals as goal

pub returns : goal.returns
returns g c =
    let right = g.T.Teller.right in
    let terms = g.H.House.terms in
    let was = c.requires.served in
    let e = c.in_ok-reply.ensures in
    let seen = g.T.Teller.seen c.answer.new.self in
    let replies = c.args.served.now.replies.items in
    let old = all_more right terms (g.T.Teller.seen c.args.served.now.teller) seen replies e.seen was.replies_right in
    let entry : Entry = record { line = c.args.line; request = c.args.request; reply = c.in_ok-reply.reply } in
    let one = names_now right terms seen entry e.answer.0 (subst (λ (t : Terms). IsRight right t c.args.request seen c.in_ok-reply.reply.body) was.same_terms e.answer.2) in
    record {
      same_house = e.same.0 ∙ was.same_house;
      same_terms = e.same.1 ∙ was.same_terms;
      ample = e.wants.ample ∙ was.ample;
      replies_right = subst (AllName right terms seen) (sym c.in_ok-push.ensures.items) (each_and (Names right terms seen) replies entry old one);
    }
