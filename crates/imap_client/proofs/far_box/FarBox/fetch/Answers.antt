use Rattle.std.proofs.Common.{◌≡◌, ◌∙◌, List, Option, ℕ, Some, None, Bool, ap, refl, sym, true, false}
use Rattle.std.specs.Prelude.{if◌then◌else◌}
use Rattle.imap_client.specs.Fetches.{body_of}
use Rattle.imap_client.proofs.far_box.FarBox.fetch.Goals as goal

-- the bytes that are lent are those that were found
lent_so : (bytes lent : List ℕ) (is_there : Bool) (reported : Option (List ℕ)) → lent ≡ bytes → is_there ≡ true → (if is_there then Some bytes else None) ≡ reported → Some lent ≡ reported
lent_so bytes lent is_there reported same there h = ap (λ (b : List ℕ). Some b) same ∙ sym (ap (λ (b : Bool). if b then Some bytes else None) there) ∙ h

none_so : (bytes : List ℕ) (is_there : Bool) (reported : Option (List ℕ)) → is_there ≡ false → (if is_there then Some bytes else None) ≡ reported → None ≡ reported
none_so bytes is_there reported there h = sym (ap (λ (b : Bool). if b then Some bytes else None) there) ∙ h

pub returns-then-branch : goal.returns-then-branch
returns-then-branch g c =
    let e = c.in_ok-load.ensures in
    let bytes = body_of c.load.new.self in (
      (
        refl,
        λ _. tt,
        (
          e.was_honest,
          e.letters,
          e.stuck,
          e.ends,
          e.same,
          e.keywords,
          e.remains,
          λ honest.
              let a = e.outcome honest in
              record {
                mid = a.mid;
                visits = a.visits;
                then = λ m is store range.
                    let reported = a.then m is store range in
                    (lent_so bytes _ _ _ c.body.ensures c.if-branch.true reported.0, reported.1);
              },
        ),
      ),
      record { following = tt },
    )

pub returns-else-branch : goal.returns-else-branch
returns-else-branch g c =
    let e = c.in_ok-load.ensures in
    let bytes = body_of c.load.new.self in (
      (
        refl,
        λ _. tt,
        (
          e.was_honest,
          e.letters,
          e.stuck,
          e.ends,
          e.same,
          e.keywords,
          e.remains,
          λ honest.
              let a = e.outcome honest in
              record {
                mid = a.mid;
                visits = a.visits;
                then = λ m is store range.
                    let reported = a.then m is store range in
                    (none_so bytes _ _ c.if-branch.false reported.0, reported.1);
              },
        ),
      ),
      record { following = tt },
    )
