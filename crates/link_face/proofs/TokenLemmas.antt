-- Tokens and values at the front of bytes.
use Rattle.std.proofs.Common.{◌≡◌, ◌≢◌, ◌==◌, ◌⊎◌, ◌&&◌, ◌<◌, ◌≤◌, ◌+◌, ◌-◌, ◌*◌, ℕ, zero, suc, min, Bool, true, false, cond, not, List, [], ◌∷◌, ◌++◌, length, take, drop, get_or, codes, Option, None, Some, refl, sym, ap, subst, ◌∙◌, arith, inl, inr, append_assoc, take-append-drop, length-append}
use Rattle.std.specs.Prelude.{unwrap_or}
use Rattle.std.specs.Borrow.{Bor}
use Rattle.std.specs.Char.{is_ascii_digit}
use Rattle.std.specs.List.{list_all, position_from}
use Rattle.std.proofs.lemmas.Bool.{cases_Bool, eqb-true, false≢true}
use Rattle.std.proofs.lemmas.List.{append-nil, take_more}
use Rattle.std.proofs.lemmas.List.Folds.{list_all_at}
use Rattle.std.proofs.Math.Seq.{take-append_seam, drop-append_seam, take-length}
use Rattle.wire_reader.specs.Literal.{value}
use Rattle.wire_tokens.specs.Numbers.{greatest}
use Rattle.link_face.specs.declared.token.Token.{Token}
use Rattle.link_face.specs.declared.token.Token.TheVariants.{Open, Close, Space, Word, Quoted, Literal}
use Rattle.link_face.specs.Heads.{is_number}
use Rattle.link_face.specs.Rows.{BeginsToken, BeginsValue, LiteralRest, Opens, TokenText, after_plus, ends_value, ends_word, is_between_quotes, is_name, is_part, number_in}
use Rattle.link_face.specs.Rows.Opens.{nothing, part, space, opened, closed}

-- ---- words

-- the bytes before the first that passes the test do not
pub none_before : (p : ℕ → Bool) (bytes : List ℕ) (i n : ℕ) → position_from p i bytes ≡ Some n → (i ≤ n) × (list_all (λ (b : ℕ). not (p b)) (take (n - i) bytes) ≡ true)
none_before p [] i n e = absurd (cc)
none_before p (b ∷ bs) i n e =
    elim (cases_Bool (p b)) [
      | inl t ↦
          let is : i ≡ n = some_is i n (sym (ap (λ (c : Bool). cond c (Some i) (position_from p (i + 1) bs)) t) ∙ e) in
          let none : n - i ≡ 0 = omega arith in
          (omega arith, ap (λ (k : ℕ). list_all (λ (x : ℕ). not (p x)) (take k (b ∷ bs))) none)
      | inr f ↦
          let later = none_before p bs (i + 1) n (sym (ap (λ (c : Bool). cond c (let o : Option ℕ = Some i in o) (position_from p (i + 1) bs)) f) ∙ e) in
          let more : n - i ≡ suc (n - (i + 1)) = omega (arith, later.0) in
          (omega (arith, later.0), ap (λ (k : ℕ). list_all (λ (x : ℕ). not (p x)) (take k (b ∷ bs))) more ∙ (ap (λ (t : Bool). not t && list_all (λ (x : ℕ). not (p x)) (take (n - (i + 1)) bs)) f ∙ later.1))
    ]
  where
    some_is : (x y : ℕ) → (let o : Option ℕ = Some x in o) ≡ Some y → x ≡ y
    some_is x y e = cc

none_at_all : (p : ℕ → Bool) (bytes : List ℕ) (i : ℕ) → position_from p i bytes ≡ None → list_all (λ (b : ℕ). not (p b)) bytes ≡ true
none_at_all p [] i e = refl
none_at_all p (b ∷ bs) i e =
    elim (cases_Bool (p b)) [
      | inl t ↦ absurd (no_some (sym (ap (λ (c : Bool). cond c (let o : Option ℕ = Some i in o) (position_from p (i + 1) bs)) t) ∙ e))
      | inr f ↦ ap (λ (t : Bool). not t && list_all (λ (x : ℕ). not (p x)) bs) f ∙ none_at_all p bs (i + 1) (sym (ap (λ (c : Bool). cond c (let o : Option ℕ = Some i in o) (position_from p (i + 1) bs)) f) ∙ e)
    ]
  where
    no_some : (let o : Option ℕ = Some i in o) ≡ None → ⊥
    no_some e = cc

pub word_before : (bytes : List ℕ) (found : Option ℕ) (n : ℕ) → found ≡ position_from ends_word 0 bytes → n ≡ unwrap_or found (length bytes) → list_all (λ (b : ℕ). not (ends_word b)) (take n bytes) ≡ true
word_before bytes (Some place) n p e =
    let none = (none_before ends_word bytes 0 place (sym p)).1 in
    let all : n ≡ place - 0 = omega (arith, e) in
    ap (λ (k : ℕ). list_all (λ (b : ℕ). not (ends_word b)) (take k bytes)) all ∙ none
word_before bytes None n p e =
    ap (λ (k : ℕ). list_all (λ (b : ℕ). not (ends_word b)) (take k bytes)) e ∙ (ap (list_all (λ (b : ℕ). not (ends_word b))) (take-length bytes) ∙ none_at_all ends_word bytes 0 (sym p))

pub word_token : (bytes rest : List ℕ) (n : ℕ) (word : Bor (List ℕ)) → list_all (λ (b : ℕ). not (ends_word b)) (take n bytes) ≡ true → word.now ≡ take n bytes → rest ≡ drop n bytes → BeginsToken bytes (Word word) rest
word_token bytes rest n word p w r = record {
  text = word.now;
  parts = sym (take-append-drop n bytes) ∙ (ap (λ (l : List ℕ). take n bytes ++ l) (sym r) ∙ ap (λ (l : List ℕ). l ++ rest) (sym w));
  is = (refl, ap (list_all (λ (b : ℕ). not (ends_word b))) w ∙ p);
}

pub open_token : (bytes rest : List ℕ) → bytes ≡ 40 ∷ rest → BeginsToken bytes Open rest
open_token bytes rest e = record { text = 40 ∷ []; parts = e; is = refl }

pub close_token : (bytes rest : List ℕ) → bytes ≡ 41 ∷ rest → BeginsToken bytes Close rest
close_token bytes rest e = record { text = 41 ∷ []; parts = e; is = refl }

pub space_token : (bytes rest : List ℕ) → bytes ≡ 32 ∷ rest → BeginsToken bytes Space rest
space_token bytes rest e = record { text = 32 ∷ []; parts = e; is = refl }

-- ---- quoted strings

-- after a byte more
pub one_more : (P : List ℕ → Bool) (bytes : List ℕ) (i d : ℕ) (u : List ℕ) → i < length bytes → P (take (i + 1) bytes ++ u) ≡ P (take i bytes ++ get_or bytes i d ∷ u)
one_more P bytes i d u h = ap (λ (l : List ℕ). P (l ++ u)) (take_more bytes i d h) ∙ ap P (append_assoc (take i bytes) (get_or bytes i d ∷ []) u)

quoted_step : (slash now : Bool) (b : ℕ) (more : List ℕ) → (not slash && b == 34) ≡ false → now ≡ (not slash && b == 92) → is_between_quotes slash (b ∷ more) ≡ is_between_quotes now more
quoted_step true now b more f e = ap (λ (t : Bool). is_between_quotes t more) (sym e)
quoted_step false now b more f e = ap (λ (t : Bool). not t && is_between_quotes (b == 92) more) f ∙ ap (λ (t : Bool). is_between_quotes t more) (sym e)

pub quoted_more : (bytes : List ℕ) (i : ℕ) (slash now : Bool) → i < length bytes → ((more : List ℕ) → is_between_quotes false (take i bytes ++ more) ≡ is_between_quotes slash more)
    → (not slash && get_or bytes i 0 == 34) ≡ false → now ≡ (not slash && get_or bytes i 0 == 92) → (more : List ℕ) → is_between_quotes false (take (i + 1) bytes ++ more) ≡ is_between_quotes now more
quoted_more bytes i slash now h k f e more =
    one_more (is_between_quotes false) bytes i 0 more h ∙ (k (get_or bytes i 0 ∷ more) ∙ quoted_step slash now (get_or bytes i 0) more f e)

no_slash : (slash is : Bool) → (not slash && is) ≡ true → not slash ≡ true
no_slash true is t = absurd (false≢true t)
no_slash false is t = refl

pub quoted_ends : (bytes : List ℕ) (i : ℕ) (slash is : Bool) → ((more : List ℕ) → is_between_quotes false (take i bytes ++ more) ≡ is_between_quotes slash more) → (not slash && is) ≡ true
    → is_between_quotes false (take i bytes) ≡ true
quoted_ends bytes i slash is k t = ap (is_between_quotes false) (sym (append-nil (take i bytes))) ∙ (k [] ∙ no_slash slash is t)

-- ---- names

name_step : (section now : Bool) (b : ℕ) (more : List ℕ) → (not section && b == 32) ≡ false → now ≡ cond section (not (b == 93)) (b == 91) → is_name section (b ∷ more) ≡ is_name now more
name_step true now b more f e = ap (λ (t : Bool). is_name t more) (sym e)
name_step false now b more f e = ap (λ (t : Bool). not t && is_name (b == 91) more) f ∙ ap (λ (t : Bool). is_name t more) (sym e)

pub name_more : (bytes : List ℕ) (i : ℕ) (section now : Bool) → i < length bytes → ((more : List ℕ) → is_name false (take i bytes ++ more) ≡ is_name section more) → (not section && get_or bytes i 0 == 32) ≡ false
    → now ≡ cond section (not (get_or bytes i 0 == 93)) (get_or bytes i 0 == 91) → (more : List ℕ) → is_name false (take (i + 1) bytes ++ more) ≡ is_name now more
name_more bytes i section now h k f e more = one_more (is_name false) bytes i 0 more h ∙ (k (get_or bytes i 0 ∷ more) ∙ name_step section now (get_or bytes i 0) more f e)

pub name_ends : (bytes : List ℕ) (i : ℕ) (section is : Bool) → ((more : List ℕ) → is_name false (take i bytes ++ more) ≡ is_name section more) → (not section && is) ≡ true → is_name false (take i bytes) ≡ true
name_ends bytes i section is k t = ap (is_name false) (sym (append-nil (take i bytes))) ∙ (k [] ∙ no_slash section is t)

pub quoted_token : (bytes rest after : List ℕ) (n : ℕ) (raw : Bor (List ℕ)) → is_between_quotes false (take n bytes) ≡ true → raw.now ≡ take n bytes → after ≡ drop n bytes → after ≡ 34 ∷ rest
    → BeginsToken (34 ∷ bytes) (Quoted raw) rest
quoted_token bytes rest after n raw q w a r = record {
  text = 34 ∷ (raw.now ++ 34 ∷ []);
  parts = ap (λ (l : List ℕ). 34 ∷ l) (sym (take-append-drop n bytes) ∙ (ap (λ (l : List ℕ). take n bytes ++ l) (sym a ∙ r) ∙ (ap (λ (l : List ℕ). l ++ 34 ∷ rest) (sym w) ∙ sym (append_assoc raw.now (34 ∷ []) rest))));
  is = (refl, ap (is_between_quotes false) w ∙ q);
}

-- ---- numbers

value_push : (v : ℕ) (digits : List ℕ) (d : ℕ) → value v (digits ++ d ∷ []) ≡ 10 * value v digits + (d - 48)
value_push v [] d = refl
value_push v (b ∷ bs) d = value_push (10 * v + (b - 48)) bs d

least_more : (v d : ℕ) → min greatest (10 * min greatest v + d) ≡ min greatest (10 * v + d)
least_more v d = omega arith

pub number_more : (digits : List ℕ) (i n d : ℕ) → i < length digits → n ≡ number_in (take i digits) → min greatest (10 * n + (get_or digits i d - 48)) ≡ number_in (take (i + 1) digits)
number_more digits i n d h e =
    ap (λ (k : ℕ). min greatest (10 * k + (get_or digits i d - 48))) e
    ∙ (least_more (value 0 (take i digits)) (get_or digits i d - 48)
    ∙ sym (ap (λ (l : List ℕ). min greatest (value 0 l)) (take_more digits i d h) ∙ ap (min greatest) (value_push 0 (take i digits) (get_or digits i d))))

pub digit_at : (digits : List ℕ) (i d : ℕ) → i < length digits → is_number digits ≡ true → is_ascii_digit (get_or digits i d) ≡ true
digit_at digits i d h n =
    elim (cases_Bool (is_ascii_digit (get_or digits i d))) [
      | inl t ↦ t
      | inr f ↦ absurd (no_digit (length digits == 0) (list_all is_ascii_digit digits) n (list_all_at is_ascii_digit digits i d h f))
    ]
  where
    no_digit : (empty all : Bool) → (not empty && all) ≡ true → all ≡ false → ⊥
    no_digit true all n f = false≢true n
    no_digit false all n f = false≢true (sym f ∙ n)

-- ---- literals

pub record Plus (bytes : List ℕ) : Type 0 where
  pub close : List ℕ
  pub parts : bytes ≡ close ++ after_plus bytes
  pub plus : (close ≡ []) ⊎ (close ≡ codes "+")

plus_of : (bytes : List ℕ) → Plus bytes
plus_of [] = record { close = []; parts = refl; plus = inl refl }
plus_of (b ∷ bs) =
    elim (cases_Bool (b == 43)) [
      | inl t ↦ record { close = codes "+"; parts = ap (λ (k : ℕ). k ∷ bs) (eqb-true b 43 t) ∙ ap (λ (l : List ℕ). 43 ∷ l) (sym (ap (λ (c : Bool). cond c bs (b ∷ bs)) t)); plus = inr refl }
      | inr f ↦ record { close = []; parts = sym (ap (λ (c : Bool). cond c bs (b ∷ bs)) f); plus = inl refl }
    ]

pub record BeginsLiteral (bytes octets rest : List ℕ) : Type 0 where
  pub text : List ℕ
  pub parts : bytes ≡ text ++ rest
  pub is : LiteralRest octets text

pub literal_begins : (bytes digits after left octets rest : List ℕ) (n : ℕ) → bytes ≡ digits ++ after → is_number digits ≡ true → n ≡ number_in digits → after_plus after ≡ codes "}\r\n" ++ left → octets ≡ take n left
    → length octets ≡ n → rest ≡ drop n left → BeginsLiteral bytes octets rest
literal_begins bytes digits after left octets rest n b d e p o l r =
    let plus = plus_of after in
    let whole : left ≡ octets ++ rest = sym (take-append-drop n left) ∙ (ap (λ (x : List ℕ). take n left ++ x) (sym r) ∙ ap (λ (x : List ℕ). x ++ rest) (sym o)) in
    let closed : after ≡ (plus.close ++ (codes "}\r\n" ++ octets)) ++ rest =
    plus.parts ∙ (ap (λ (x : List ℕ). plus.close ++ x) (p ∙ ap (λ (x : List ℕ). codes "}\r\n" ++ x) whole) ∙ sym (append_assoc plus.close (codes "}\r\n" ++ octets) rest)) in
    record {
      text = digits ++ (plus.close ++ (codes "}\r\n" ++ octets));
      parts = b ∙ (ap (λ (x : List ℕ). digits ++ x) closed ∙ sym (append_assoc digits (plus.close ++ (codes "}\r\n" ++ octets)) rest));
      is = record { digits = digits; close = plus.close; parts = refl; number = d; plus = plus.plus; long = l ∙ e };
    }

pub literal_token : (bytes rest : List ℕ) (octets : Bor (List ℕ)) → BeginsLiteral bytes octets.now rest → BeginsToken (123 ∷ bytes) (Literal octets) rest
literal_token bytes rest octets h = record {
  text = 123 ∷ h.text;
  parts = ap (λ (l : List ℕ). 123 ∷ l) h.parts;
  is = inl (record { front = 123 ∷ []; back = h.text; parts = refl; first = refl; second = h.is });
}

pub tilde_token : (bytes rest : List ℕ) (octets : Bor (List ℕ)) → BeginsLiteral bytes octets.now rest → BeginsToken (126 ∷ (123 ∷ bytes)) (Literal octets) rest
tilde_token bytes rest octets h = record {
  text = 126 ∷ (123 ∷ h.text);
  parts = ap (λ (l : List ℕ). 126 ∷ (123 ∷ l)) h.parts;
  is = inr (record { front = 126 ∷ (123 ∷ []); back = h.text; parts = refl; first = refl; second = h.is });
}

-- ---- values

pub opens_one : (depth now : ℕ) (front text : List ℕ) → now ≡ depth + 1 → Opens depth front → text ≡ codes "(" → Opens now (front ++ text)
opens_one depth now front text n o t =
    let more : suc depth ≡ now = omega arith in
    subst (λ (k : ℕ). Opens k (front ++ text)) more (subst (λ (l : List ℕ). Opens (suc depth) (front ++ l)) (sym t) (opened depth front o))

pub closes_one : (depth now : ℕ) (front text : List ℕ) → now + 1 ≡ depth → Opens depth front → text ≡ codes ")" → Opens now (front ++ text)
closes_one depth now front text n o t =
    let less : depth ≡ suc now = omega arith in
    subst (λ (l : List ℕ). Opens now (front ++ l)) (sym t) (closed now front (subst (λ (k : ℕ). Opens k front) less o))

pub stays_open : (depth : ℕ) (front text : List ℕ) → depth ≢ 0 → Opens depth front → text ≡ codes " " → Opens depth (front ++ text)
stays_open zero front text n o t = absurd (n refl)
stays_open (suc depth) front text n o t = subst (λ (l : List ℕ). Opens (suc depth) (front ++ l)) (sym t) (space depth front o)

pub one_part : (depth : ℕ) (token : Token) (front text : List ℕ) → is_part token ≡ true → Opens depth front → TokenText token text → Opens depth (front ++ text)
one_part depth token front text p o t = part depth front text token o p t

pub record ValueSoFar (bytes : List ℕ) (depth : ℕ) (rest : List ℕ) : Type 0 where
  pub front : List ℕ
  pub parts : bytes ≡ front ++ rest
  pub opens : Opens depth front

pub value_begins : (bytes : List ℕ) → ValueSoFar bytes 0 bytes
value_begins bytes = record { front = []; parts = refl; opens = nothing }

pub value_goes_on : (bytes rest following : List ℕ) (depth now : ℕ) (token : Token) → ValueSoFar bytes depth rest → BeginsToken rest token following
    → ((front text : List ℕ) → Opens depth front → TokenText token text → Opens now (front ++ text)) → ValueSoFar bytes now following
value_goes_on bytes rest following depth now token v t o = record {
  front = v.front ++ t.text;
  parts = v.parts ∙ (ap (λ (l : List ℕ). v.front ++ l) t.parts ∙ sym (append_assoc v.front t.text following));
  opens = o v.front t.text v.opens t.is;
}

pub value_ends : (bytes rest following value left : List ℕ) (token : Token) (n : ℕ) → ValueSoFar bytes 0 rest → BeginsToken rest token following → ((text rest : List ℕ) → TokenText token text → ends_value (text ++ rest) ≡ true)
    → n ≡ length bytes - length rest → value ≡ take n bytes → left ≡ drop n bytes → BeginsValue bytes value left
value_ends bytes rest following value left token n v t e c w l =
    let at : n ≡ length v.front = omega (arith, c, ap length v.parts, length-append v.front rest) in
    let front : value ≡ v.front = w ∙ (ap (λ (k : ℕ). take k bytes) at ∙ (ap (take (length v.front)) v.parts ∙ take-append_seam v.front rest)) in
    let back : left ≡ rest = l ∙ (ap (λ (k : ℕ). drop k bytes) at ∙ (ap (drop (length v.front)) v.parts ∙ drop-append_seam v.front rest)) in
    record {
      parts = v.parts ∙ (ap (λ (x : List ℕ). x ++ rest) (sym front) ∙ ap (λ (x : List ℕ). value ++ x) (sym back));
      is = subst (Opens 0) (sym front) v.opens;
      ends = ap ends_value (back ∙ t.parts) ∙ e t.text following t.is;
    }
