use Rattle.std.proofs.Common.{◌∙◌, ◌∷◌, ap}
use Rattle.mail_stores.proofs.ListedLemmas.{listed_before}
use Rattle.mail_stores.proofs.sessions.Sessions.list.Goals as goal

-- what it listed are the names that its server has
pub returns-in-Ok : goal.returns-in-Ok
returns-in-Ok g c = record {
  after = c.list-answer.new.self;
  is = c.and-over.ensures ∙ ap (λ xs. c.list-answer.new.self ∷ xs) (c.and-before.ensures ∙ ap (λ xs. c.args.session ∷ xs) c.new.ensures);
  said = λ honest. listed_before g.L.Link.visitors _ _ _ (c.in-Ok.ensures.outcome honest);
}
