use Rattle.std.proofs.lemmas.Bool.{false≢true}
use Rattle.mailcore.specs.CopyPieces.{text_left}
use Rattle.mail_sides.proofs.CopyOctets.{sent_as}
use Rattle.mail_sides.proofs.OpenCalls.{Called, appends, still_logged_in, still_has_map, still_named}
use Rattle.mail_sides.proofs.far_side.FarSideMailbox.append_copy.Goals as goal

pub invariant_of-self : goal.invariant_of-self
invariant_of-self g c =
    let s = c.args.self.now in
    let new = c.append_copy.new.self in
    let said = c.append_copy.ensures in
    let k : Called s.account.mailbox.items s.stage s.far new = record {
      is_open = c.requires.open;
      whole = c.requires.whole;
      named = s.named;
      was_honest = said.was_honest;
      had_letters = s.letters;
      letters = said.letters;
      keywords = said.keywords;
      still = said.same.2;
      counts = said.counts;
    } in
    record {
      named = λ selected. still_named k said.same.0 selected;
      logged_in = λ reached ready h. still_logged_in k said.same.0 ready h;
      fresh = λ e. absurd (false≢true e);
      letters = still_has_map k;
    }

pub returns-clause-call : goal.returns-clause-call
returns-clause-call g c =
    let s = c.args.self.now in
    let new = c.append_copy.new.self in
    let said = c.append_copy.ensures in
    let k : Called s.account.mailbox.items s.stage s.far new = record {
      is_open = c.requires.open;
      whole = c.requires.whole;
      named = s.named;
      was_honest = said.was_honest;
      had_letters = s.letters;
      letters = said.letters;
      keywords = said.keywords;
      still = said.same.2;
      counts = said.counts;
    } in
    rw c.reported_by.ensures (appends k g.met.L.Link.sound (text_left c.args.copy) c.args.flags c.append_copy.result said.ends said.outcome)

pub append_copy-requires : goal.append_copy-requires
append_copy-requires g c = sent_as (text_left c.args.copy) c.requires.copy
