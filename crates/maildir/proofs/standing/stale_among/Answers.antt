use Rattle.std.proofs.Common.{◌≡◌, ◌∙◌, List, Some, None, ap, subst, sym}
use Rattle.maildir.specs.declared.folder.FileName.{FileName}
use Rattle.maildir.specs.declared.folder.Place.TheVariants.{Cur, New}
use Rattle.maildir.specs.declared.standing.Sought.{Sought}
use Rattle.maildir.specs.Standings.{HasMet, files_in, first, shown_by}
use Rattle.maildir.proofs.StandingLemmas.{stale_before, stale_later, stale_odd}
use Rattle.maildir.proofs.standing.stale_among.Goals as goal

pub returns-in-Some : goal.returns-in-Some
returns-in-Some c =
    let news : List FileName = files_in New c.args.new.items in
    let is : Some c.in-Some.stale ≡ first (shown_by c.args.sought.gone.now c.args.sought.marked.now news) =
    sym c.in-Some.is ∙ c.in_ok-stale.ensures.found ∙ ap (λ (s : Sought). first (shown_by s.gone.now s.marked.now news)) c.new-look.ensures.sought in
    stale_before c.args.sought.gone.now c.args.sought.marked.now news (files_in Cur c.args.cur.items) c.in-Some.stale is

pub returns-in-Some-2 : goal.returns-in-Some-2
returns-in-Some-2 c =
    let news : List FileName = files_in New c.args.new.items in
    let curs : List FileName = files_in Cur c.args.cur.items in
    let none : None ≡ first (shown_by c.args.sought.gone.now c.args.sought.marked.now news) =
    sym c.in_default.is ∙ c.in_ok-stale.ensures.found ∙ ap (λ (s : Sought). first (shown_by s.gone.now s.marked.now news)) c.new-look.ensures.sought in
    let is : Some c.in-Some-2.stale ≡ first (shown_by c.args.sought.gone.now c.args.sought.marked.now curs) =
    sym c.in-Some-2.is ∙ c.in_ok-stale-2.ensures.found ∙ ap (λ (s : Sought). first (shown_by s.gone.now s.marked.now curs)) (c.in_ok-stale.ensures.sought ∙ c.new-look.ensures.sought) in
    stale_later c.args.sought.gone.now c.args.sought.marked.now news curs c.in-Some-2.stale none is

pub returns : goal.returns
returns c =
    let news : List FileName = files_in New c.args.new.items in
    let curs : List FileName = files_in Cur c.args.cur.items in
    let same : c.meet_all.new.self.sought ≡ c.args.sought = c.in_ok-stale.ensures.sought ∙ c.new-look.ensures.sought in
    let none : None ≡ first (shown_by c.args.sought.gone.now c.args.sought.marked.now news) =
    sym c.in_default.is ∙ c.in_ok-stale.ensures.found ∙ ap (λ (s : Sought). first (shown_by s.gone.now s.marked.now news)) c.new-look.ensures.sought in
    let none_cur : None ≡ first (shown_by c.args.sought.gone.now c.args.sought.marked.now curs) =
    sym c.in_default-2.is ∙ c.in_ok-stale-2.ensures.found ∙ ap (λ (s : Sought). first (shown_by s.gone.now s.marked.now curs)) same in
    let met : HasMet c.args.sought.marked.now news c.new-look.result.marked.items c.meet_all.new.self.marked.items c.new-look.result.odd.items c.meet_all.new.self.odd.items =
    subst (λ (s : Sought). HasMet s.marked.now news c.new-look.result.marked.items c.meet_all.new.self.marked.items c.new-look.result.odd.items c.meet_all.new.self.odd.items) c.new-look.ensures.sought (c.in_ok-stale.ensures.met c.in_default.is) in
    let met_cur : HasMet c.args.sought.marked.now curs c.meet_all.new.self.marked.items c.meet_all-2.new.self.marked.items c.meet_all.new.self.odd.items c.meet_all-2.new.self.odd.items =
    subst (λ (s : Sought). HasMet s.marked.now curs c.meet_all.new.self.marked.items c.meet_all-2.new.self.marked.items c.meet_all.new.self.odd.items c.meet_all-2.new.self.odd.items) same (c.in_ok-stale-2.ensures.met c.in_default-2.is) in
    stale_odd c.args.sought.gone.now c.args.sought.marked.now news curs _ _ _ _ _ _ c.odd_one.result none none_cur c.new-look.ensures.marked c.new-look.ensures.odd met met_cur c.odd_one.ensures
