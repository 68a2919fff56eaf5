use Rattle.std.proofs.Common.{sym, ◌∙◌}
use Rattle.std.proofs.lemmas.Bool.{false≢true}
use Rattle.outside.specs.MailboxOperations.{Finds}
use Rattle.mail_sides.specs.Chosen.{settled}
use Rattle.mail_sides.proofs.SeenThrough.{marked_seen}
use Rattle.mail_sides.proofs.OpenCalls.{Called, reads, still_logged_in, still_has_map, still_named}
use Rattle.mail_sides.proofs.far_side.FarSideMailbox.find_mark.Goals as goal

pub invariant_of-self : goal.invariant_of-self
invariant_of-self g c =
    let s = c.args.self.now in
    let new = c.find_mark.new.self in
    let said = c.find_mark.ensures in
    let k : Called s.account.mailbox.items s.stage s.far new = record {
      is_open = c.requires.open;
      whole = c.requires.whole;
      named = s.named;
      was_honest = said.was_honest;
      had_letters = s.letters;
      letters = said.letters;
      keywords = said.keywords;
      still = said.same.3;
      counts = said.counts;
    } in
    record {
      named = λ selected. still_named k said.same.0 selected;
      logged_in = λ reached ready h. still_logged_in k said.same.0 ready h;
      fresh = λ e. absurd (false≢true e);
      letters = still_has_map k;
    }

pub returns-clause-call : goal.returns-clause-call
returns-clause-call g c =
    let s = c.args.self.now in
    let new = c.find_mark.new.self in
    let said = c.find_mark.ensures in
    let k : Called s.account.mailbox.items s.stage s.far new = record {
      is_open = c.requires.open;
      whole = c.requires.whole;
      named = s.named;
      was_honest = said.was_honest;
      had_letters = s.letters;
      letters = said.letters;
      keywords = said.keywords;
      still = said.same.3;
      counts = said.counts;
    } in
    rw c.reported_by.ensures (reads k g.met.L.Link.sound (Finds c.args.mark c.args.from) (λ found s. Finds c.args.mark c.args.from found (settled s)) (λ found x is. is ∙ sym (marked_seen s.far.keywords c.args.mark c.args.from x)) c.find_mark.result said.ends said.outcome)
