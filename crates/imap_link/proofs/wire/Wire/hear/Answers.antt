use Rattle.std.proofs.Common.{◌++◌, ◌∷◌, [], List, ap, sym, subst, ◌∙◌}
use Rattle.imap_replies.specs.declared.reply.Reply.{Reply}
use Rattle.imap_link.specs.ReplyKinds.{kind_of}
use Rattle.imap_link.specs.UsedReplies.{is_used}
use Rattle.imap_link.specs.Sinks.{reporting}
use Rattle.imap_link.proofs.Heard.{last_is, last_whole}
use Rattle.imap_link.proofs.wire.Wire.hear.Goals as goal

pub returns-clause-heard : goal.returns-clause-heard
returns-clause-heard g c =
    let w = c.in_ok-len.ensures.heard in
    let same = last_is c.in_ok-len.len _ c.args.self.now.heard.read c.whole.new.self.heard.read w c.in_ok-reply.reply c.in_ok-reply.ensures.ok in
    record {
      whole = w;
      is = ap (kind_of c.args.tag.now) (sym same) ∙ sym c.kind_of.ensures;
      used_is = ap (is_used c.args.uses) (sym same) ∙ sym c.takes.ensures;
      reported = λ first reported h. subst (λ (r : Reply). g.S.ReplySink.took first (reported ++ reporting (r ∷ [])) c.take.new.self) same (c.in_ok-take.ensures first reported h);
    }
