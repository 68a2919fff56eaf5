-- Names of mailboxes that are handed out.
use Rattle.std.specs.Prelude.{◌≡◌, ◌<◌, ◌≤◌, ℕ, true, List, length}
use Rattle.std.specs.List.{list_all}
use Rattle.wire_strings.specs.Texts.{is_text}
use Rattle.link_face.specs.Names.{IsName}

-- the name of a mailbox in modified UTF-7, of 1 to 255 bytes
pub record IsNearName (near : List ℕ) : Type 0 where
  pub far : List ℕ
  pub name : IsName far near
  pub some : 0 < length near
  pub fits : length near ≤ 255
  pub text : list_all is_text near ≡ true
