use Rattle.std.proofs.Common.{◌≡◌, ◌+◌, ◌∙◌, length, rules, ◌-◌}
use Rattle.imap_link.proofs.Views.{kept_alone}
use Rattle.imap_link.proofs.moving.keep.Goals as goal

pub returns : goal.returns
returns c =
    let left = c.len.result - c.args.next in
    let long : left + c.args.next ≡ length c.args.bytes.now.items = search rules in
    c.truncate.ensures.items
    ∙ kept_alone c.args.bytes.now.items c.move_down.new.bytes.items c.move_down-2.new.bytes.items c.args.start c.args.end c.args.next left c.requires.some
    c.requires.apart long c.move_down.ensures.front c.move_down.ensures.following c.move_down-2.ensures.front
