use Rattle.std.proofs.lemmas.Bool.{false≢true}
use Rattle.std.proofs.Common.{◌≡◌, Some, None}
use Rattle.std.specs.Prelude.{if◌then◌else◌}
use Rattle.mailcore.specs.Operations.{bytes_of}
use Rattle.outside.specs.MailboxOperations.{Loads}
use Rattle.imap_client.specs.Fetches.{body_of}
use Rattle.mail_sides.proofs.OpenCalls.{Called, loaded, reads, still_logged_in, still_has_map, still_named}
use Rattle.mail_sides.proofs.far_side.FarSideMailbox.load.Goals as goal

pub invariant_of-self : goal.invariant_of-self
invariant_of-self g c =
    let s = c.args.self.now in
    let new = c.load.new.self in
    let said = c.load.ensures in
    let k : Called s.account.mailbox.items s.stage s.far new = record {
      is_open = c.requires.open;
      whole = c.requires.whole;
      named = s.named;
      was_honest = said.was_honest;
      had_letters = s.letters;
      letters = said.letters;
      keywords = said.keywords;
      still = said.same.3;
      counts = said.counts;
    } in
    record {
      named = λ selected. still_named k said.same.0 selected;
      logged_in = λ reached ready h. still_logged_in k said.same.0 ready h;
      fresh = λ e. absurd (false≢true e);
      letters = still_has_map k;
    }

pub returns-clause-call : goal.returns-clause-call
returns-clause-call g c =
    let s = c.args.self.now in
    let new = c.load.new.self in
    let said = c.load.ensures in
    let k : Called s.account.mailbox.items s.stage s.far new = record {
      is_open = c.requires.open;
      whole = c.requires.whole;
      named = s.named;
      was_honest = said.was_honest;
      had_letters = s.letters;
      letters = said.letters;
      keywords = said.keywords;
      still = said.same.3;
      counts = said.counts;
    } in
    rw c.reported_by.ensures (reads k g.met.L.Link.sound (Loads c.args.uid (body_of new)) (λ is_there s. (if is_there then Some (body_of new) else None) ≡ bytes_of c.args.uid s) (loaded s.far.keywords c.args.uid (body_of new)) c.load.result said.ends said.outcome)
