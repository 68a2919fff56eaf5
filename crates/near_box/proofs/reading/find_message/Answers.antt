use Rattle.std.proofs.Common.{ℕ, List, Some, ap, arith, sym, ◌∙◌}
use Rattle.near_box.specs.declared.survey.SurveyEntry.{SurveyEntry}
use Rattle.near_box.proofs.ReadLemmas.{bytes_found, bytes_missing, bytes_there}
use Rattle.near_box.proofs.reading.find_message.Goals as goal

pub returns-in_ok-read_message-in-Some-clause-bytes : goal.returns-in_ok-read_message-in-Some-clause-bytes
returns-in_ok-read_message-in-Some-clause-bytes g c = λ honest keywords rising there.
    let s = (g.F.Folder.seen c.args.folder.now).stored in
    let es = c.args.entries.now in
    let i = c.in-Some.i in
    let entry = c.index-entries-i.result in
    let is = c.index-entries-i.is in
    let same = ap (λ (e : SurveyEntry). e.uid) is ∙ c.in-Some.ensures.found entry in
    let here = bytes_there s es i entry (omega (arith, c.in-Some.ensures.within)) is there in
    ap (λ (b : List ℕ). Some b) (c.in_ok-read_message-in-Some.ensures.bytes honest here) ∙ sym here
    ∙ bytes_found keywords s c.args.uid es i entry (omega (arith, c.in-Some.ensures.within)) is rising there same

pub returns-in-None-clause-bytes : goal.returns-in-None-clause-bytes
returns-in-None-clause-bytes g c = λ honest keywords rising there.
    bytes_missing keywords (g.F.Folder.seen c.args.folder.now).stored c.args.uid c.args.entries.now (c.place_of.ensures.missing rising c.in-None.is)
