use Rattle.std.proofs.Common.{[], ◌∷◌}
use Rattle.std.proofs.lemmas.Bool.{false≢true}
use Rattle.imap_session.specs.NamedMessages.{swept}
use Rattle.imap_client.specs.Calls.{each_one}
use Rattle.outside.specs.MailboxOperations.{removed}
use Rattle.mail_sides.proofs.OpenCalls.{Called, still_logged_in, still_has_map, still_named, turns}
use Rattle.mail_sides.proofs.Operations.{swept_same}
use Rattle.mail_sides.proofs.SeenThrough.{removed_seen}
use Rattle.mail_sides.proofs.far_side.FarSideMailbox.expunge.Goals as goal

pub invariant_of-self : goal.invariant_of-self
invariant_of-self g c =
    let s = c.args.self.now in
    let new = c.expunge.new.self in
    let said = c.expunge.ensures in
    let k : Called s.account.mailbox.items s.stage s.far new = record {
      is_open = c.requires.open;
      whole = c.requires.whole;
      named = s.named;
      was_honest = said.was_honest;
      had_letters = s.letters;
      letters = said.letters;
      keywords = said.keywords;
      still = said.same.3;
      counts = said.counts;
    } in
    record {
      named = λ selected. still_named k said.same.0 selected;
      logged_in = λ reached ready h. still_logged_in k said.same.0 ready h;
      fresh = λ e. absurd (false≢true e);
      letters = still_has_map k;
    }

pub returns-clause-call : goal.returns-clause-call
returns-clause-call g c =
    let s = c.args.self.now in
    let new = c.expunge.new.self in
    let said = c.expunge.ensures in
    let k : Called s.account.mailbox.items s.stage s.far new = record {
      is_open = c.requires.open;
      whole = c.requires.whole;
      named = s.named;
      was_honest = said.was_honest;
      had_letters = s.letters;
      letters = said.letters;
      keywords = said.keywords;
      still = said.same.3;
      counts = said.counts;
    } in
    rw c.reported_by.ensures (turns k g.met.L.Link.sound 1 (swept (each_one (c.args.uid ∷ []))) (removed c.args.uid) c.expunge.result said.ends
    (λ x. swept_same s.account.mailbox.items x c.args.uid) (removed_seen s.far.keywords c.args.uid) said.outcome)
