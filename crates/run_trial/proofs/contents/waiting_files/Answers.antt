use Rattle.std.proofs.Common.{◌∙◌, rules, ap, filter}
use Rattle.std.proofs.lemmas.List.Sorted.{answers_always}
use Rattle.maildir.specs.Names.{is_waiting}
use Rattle.near_box.specs.Mailboxes.{is_before}
use Rattle.run_trial.proofs.ContentsLemmas.{borrowed_in_order, waiting_sorted}
use Rattle.run_trial.proofs.contents.waiting_files.Goals as goal

pub returns : goal.returns
returns c =
    waiting_sorted _ c.in_ok-files.files.items c.sort_by.new.self.items c.args.folder.now.files.apart
    (c.in_ok-files.ensures ∙ ap (filter (λ file. is_waiting file.name)) c.files.ensures) c.sort_by.ensures.permutation
    (c.in_ok-sort_by.ensures.sorted (λ a b. is_before a.now b.now) borrowed_in_order (answers_always _ _ _ (λ f a r q k. search rules)))
