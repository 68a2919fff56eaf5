use Rattle.std.proofs.lemmas.Bool.{false≢true}
use Rattle.imap_commands.specs.declared.command.StoreMode.TheVariants as modes
use Rattle.mailcore.specs.KeywordNames.{kept}
use Rattle.imap_session.specs.NamedMessages.{flags_changed, stored}
use Rattle.imap_client.specs.Boxes.{one_uid}
use Rattle.mail_sides.proofs.OpenCalls.{Called, had_map, still_logged_in, still_has_map, still_named, turns}
use Rattle.mail_sides.proofs.Operations.{stored_same}
use Rattle.mail_sides.proofs.SeenThrough.{flags_added_seen}
use Rattle.mail_sides.proofs.far_side.FarSideMailbox.add_flags.Goals as goal

pub invariant_of-self : goal.invariant_of-self
invariant_of-self g c =
    let s = c.args.self.now in
    let new = c.add_flags.new.self in
    let said = c.add_flags.ensures in
    let k : Called s.account.mailbox.items s.stage s.far new = record {
      is_open = c.requires.open;
      whole = c.requires.whole;
      named = s.named;
      was_honest = said.was_honest;
      had_letters = s.letters;
      letters = said.letters;
      keywords = said.keywords;
      still = said.same.3;
      counts = said.counts;
    } in
    record {
      named = λ selected. still_named k said.same.0 selected;
      logged_in = λ reached ready h. still_logged_in k said.same.0 ready h;
      fresh = λ e. absurd (false≢true e);
      letters = still_has_map k;
    }

pub returns-clause-call : goal.returns-clause-call
returns-clause-call g c =
    let s = c.args.self.now in
    let new = c.add_flags.new.self in
    let said = c.add_flags.ensures in
    let k : Called s.account.mailbox.items s.stage s.far new = record {
      is_open = c.requires.open;
      whole = c.requires.whole;
      named = s.named;
      was_honest = said.was_honest;
      had_letters = s.letters;
      letters = said.letters;
      keywords = said.keywords;
      still = said.same.3;
      counts = said.counts;
    } in
    rw c.reported_by.ensures (turns k g.met.L.Link.sound 1 (stored modes.Add (kept s.far.keywords c.args.flags) (one_uid c.args.uid)) (flags_changed modes.Add c.args.uid (kept s.far.keywords c.args.flags)) c.add_flags.result said.ends
    (λ x. stored_same s.account.mailbox.items x modes.Add c.args.uid (kept s.far.keywords c.args.flags)) (flags_added_seen s.far.keywords c.args.uid c.args.flags)
    (λ h. said.outcome h (had_map k h)))
