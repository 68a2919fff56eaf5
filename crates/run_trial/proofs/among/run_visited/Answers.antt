-- Link, folder and shelf in memory always keep their word.
use Rattle.std.proofs.Common.{◌∙◌, false, ap, sym, subst}
use Rattle.std.specs.Prelude.{IfErr}
use Rattle.mem_link.specs.declared.mem_link.MemLink.{MemLink}
use Rattle.mem_link.specs.MemLinks.{line_of}
use Rattle.maildir.specs.MemFolders.{stored_in}
use Rattle.book.specs.MemShelves.{files_of}
use Rattle.outside.specs.Calls.{Seen}
use Rattle.run_pair.specs.Pairs.{seen_of}
use Rattle.run_states.specs.Beginnings.{Begins, opening_of}
use Rattle.run_states.specs.Conditions.{Underway}
use Rattle.runner.specs.Attempts.{MetStops}
use Rattle.runner.specs.Faults.{LeavesRun}
use Rattle.run_trial.proofs.AmongLemmas.{are_both, left_among, others_among, over_among}
use Rattle.run_trial.proofs.MemoryLemmas.{over_device, parts_seen, stops_met}
use Rattle.run_trial.proofs.among.run_visited.Goals as goal

pub returns-clause-over : goal.returns-clause-over
returns-clause-over g c = λ are start named begins.
    let same = parts_seen c.args.setting.options.keywords _ c.args.setting.far.server.server (stored_in c.args.setting.near.folder.folder) (files_of c.args.setting.near.shelf) _ (ap (λ (l : MemLink). (line_of l).end.server) c.new-link.ensures.link ∙ c.new.ensures.server) c.in_ok-outside.ensures.seen in
    over_among g.O.Others.ours start c.args.setting.options (seen_of c.settle_all.result.0).device c.settle_all.result.1
    (c.settle_all.ensures.over start named (tt, tt, tt) (are_both g.O.Others.ours are) (subst (λ (s : Seen). Begins start s.device) (sym same) begins))

pub returns-clause-others : goal.returns-clause-others
returns-clause-others g c = λ are start named begins.
    let same = parts_seen c.args.setting.options.keywords _ c.args.setting.far.server.server (stored_in c.args.setting.near.folder.folder) (files_of c.args.setting.near.shelf) _ (ap (λ (l : MemLink). (line_of l).end.server) c.new-link.ensures.link ∙ c.new.ensures.server) c.in_ok-outside.ensures.seen in
    others_among g.O.Others.ours start c.args.setting.options (seen_of c.settle_all.result.0).device c.settle_all.result.1
    (c.settle_all.ensures.others start named (tt, tt, tt) (are_both g.O.Others.ours are) (subst (λ (s : Seen). Begins start s.device) (sym same) begins))

pub returns-clause-left : goal.returns-clause-left
returns-clause-left g c = λ are start named begins.
    let same = parts_seen c.args.setting.options.keywords _ c.args.setting.far.server.server (stored_in c.args.setting.near.folder.folder) (files_of c.args.setting.near.shelf) _ (ap (λ (l : MemLink). (line_of l).end.server) c.new-link.ensures.link ∙ c.new.ensures.server) c.in_ok-outside.ensures.seen in
    subst (λ (s : Seen). IfErr c.settle_all.result.1 (λ fault. LeavesRun (Underway (opening_of g.O.Others.ours false start c.args.setting.options)) fault s (seen_of c.settle_all.result.0))) same
    (left_among g.O.Others.ours start c.args.setting.options (seen_of c.in_ok-outside.outside) (seen_of c.settle_all.result.0) c.settle_all.result.1
    (c.settle_all.ensures.left start named (tt, tt, tt) (are_both g.O.Others.ours are) (subst (λ (s : Seen). Begins start s.device) (sym same) begins)))

pub returns-clause-greatest : goal.returns-clause-greatest
returns-clause-greatest g c =
    let same = parts_seen c.args.setting.options.keywords _ c.args.setting.far.server.server (stored_in c.args.setting.near.folder.folder) (files_of c.args.setting.near.shelf) _ (ap (λ (l : MemLink). (line_of l).end.server) c.new-link.ensures.link ∙ c.new.ensures.server) c.in_ok-outside.ensures.seen in
    over_device _ false (seen_of c.in_ok-outside.outside).device _ (seen_of c.settle_all.result.0).device c.settle_all.result.1 (ap (λ (s : Seen). s.device) same) (tt, tt, tt) c.settle_all.ensures.greatest

pub returns-clause-stopped : goal.returns-clause-stopped
returns-clause-stopped g c = λ stopped.
    let same = parts_seen c.args.setting.options.keywords _ c.args.setting.far.server.server (stored_in c.args.setting.near.folder.folder) (files_of c.args.setting.near.shelf) _ (ap (λ (l : MemLink). (line_of l).end.server) c.new-link.ensures.link ∙ c.new.ensures.server) c.in_ok-outside.ensures.seen in
    stops_met c.args.tries (seen_of c.settle_all.result.0).stops
    (subst (λ (s : Seen). MetStops c.args.tries s (seen_of c.settle_all.result.0)) same (c.settle_all.ensures.stopped stopped))

pub returns-clause-map : goal.returns-clause-map
returns-clause-map g c = c.settle_all.ensures.keywords ∙ c.in_ok-outside.ensures.keywords
