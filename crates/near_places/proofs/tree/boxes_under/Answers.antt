use Rattle.std.proofs.Common.{◌∙◌, refl, sym}
use Rattle.near_places.specs.declared.tree.WalkStart.{WalkStart}
use Rattle.near_places.specs.declared.tree.TreeWalk.{TreeWalk}
use Rattle.near_places.proofs.StepLemmas.{gained_nothing, none_left, walk_all, walk_first, walk_more}
use Rattle.near_places.proofs.tree.boxes_under.Goals as goal

pub loop-init : goal.loop-init
loop-init g c =
    let start : WalkStart = record { root = c.args.root; inbox = c.in_ok-folder_at.field-0 } in
    let none : TreeWalk = c.new-walk.result in
    let asked : TreeWalk = record none { names = record none.names { looks = c.folder_at.new.self } } in
    walk_first start c.args.inbox.now c.as_str.result.now c.in_ok-top.top none asked c.keep_root.new.self c.folder_at-2.new.self c.as_str.ensures.value
    c.new-walk.ensures.ahead c.new-walk.ensures.names (gained_nothing none asked refl refl) c.in_ok-top.ensures.noted c.in_ok-keep_root.ensures.gained
    c.keep_root.ensures.same c.in_ok-folder_at.ensures.noted

pub loop-preserved : goal.loop-preserved
loop-preserved g c =
    let start : WalkStart = record { root = c.args.root; inbox = c.in_ok-folder_at.field-0 } in
    let taken : TreeWalk = record c.loop.walk { ahead = c.pop.new.self } in
    walk_more start c.args.inbox.now c.in-Some.folder c.loop.walk taken c.read-answer.new.self c.read-answer.result c.in-Some.ensures.items refl
    (sym c.unless_beyond.ensures ∙ c.in_ok-unless_beyond.was) c.read-answer.ensures.later c.read-answer.ensures.beyond c.read-answer.ensures.gained
    c.loop.invariant

pub returns-in_default : goal.returns-in_default
returns-in_default g c =
    let start : WalkStart = record { root = c.args.root; inbox = c.in_ok-folder_at.field-0 } in
    walk_all start c.args.inbox.now c.loop.walk (none_left c.loop.walk.ahead.items (sym c.loop.walk.ahead.ok.0 ∙ c.in_default.ensures.cases.0)) c.loop.invariant
