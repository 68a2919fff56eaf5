use Rattle.std.proofs.Common.{◌≡◌, ◌∙◌, sym, ap, true, false, string_bytes}
use Rattle.mail_stores.specs.Addresses.{wants_brackets}
use Rattle.mail_stores.proofs.address.address_of.Goals as goal

pub returns-then-wants_brackets : goal.returns-then-wants_brackets
returns-then-wants_brackets c =
    let is : wants_brackets (string_bytes c.args.store.now.host) ≡ true =
    ap wants_brackets (sym c.as_bytes.ensures.value) ∙ sym c.wants_brackets.ensures ∙ c.if-wants_brackets.true in
    rw is c.format.ensures.ok

pub returns-else-wants_brackets : goal.returns-else-wants_brackets
returns-else-wants_brackets c =
    let is : wants_brackets (string_bytes c.args.store.now.host) ≡ false =
    ap wants_brackets (sym c.as_bytes.ensures.value) ∙ sym c.wants_brackets.ensures ∙ c.if-wants_brackets.false in
    rw is c.format-else-wants_brackets.ensures.ok
