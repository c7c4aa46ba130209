-- Questions in full and in lower case.
-- Serves `read_plain_query`.
use Rattle.std.proofs.Common.{◌≡◌, ℕ, ◌+◌, ◌-◌, ◌≤◌, List, [], ◌∷◌, ◌++◌, length, take, drop, refl, sym, ap, ◌∙◌, arith, length-append}
use Rattle.std.proofs.Math.Seq.{take-append_seam}
use Rattle.std.proofs.lemmas.List.{append-nil, take-append-drop, length-take-le}
use Rattle.fleet_name.specs.Name.{wire, lower, IsName}
use Rattle.fleet_name.proofs.Lemmas.{any_case-from_lower, lower_all-same, labels_of-spelled, lower-wire}
use Rattle.fleet_wire.specs.Number.{u16_at}
use Rattle.fleet_wire.specs.NameAt.{NameAt}
use Rattle.fleet_wire.specs.Question.{QuestionData, IsQuestion, IsLent}
use Rattle.fleet_wire.specs.Message.{IsPlainQuery}
use Rattle.fleet_wire.specs.declared.header.Header.{Header}
use Rattle.fleet_wire.proofs.PlainNames.{same_behind}
use Rattle.fleet_wire.proofs.Readings.{one_reading}
use Rattle.fleet_wire.proofs.Written.{SitsAt, sits_first, sits_rest, sits_octet, sits_within, lies_written}

-- what is before the others, by how many there are
pub front_is : (rest front others : List ℕ) → rest ≡ front ++ others
    → take (length rest - length others) rest ≡ front
front_is rest front others e =
    let count : length rest - length others ≡ length front =
    omega (arith, ap length e, length-append front others) in
    ap (λ (k : ℕ). take k rest) count
    ∙ (ap (λ (x : List ℕ). take (length front) x) e ∙ take-append_seam front others)

-- the octets of a name in lower case are lent
pub name_lent : (octets : List ℕ) (n : List (List ℕ)) → IsName n → octets ≡ wire n
    → IsLent octets octets
name_lent octets n named e =
    let is = labels_of-spelled octets n named.labels e in
    let same = lower_all-same n named.labels in
    record {
      spells =
          ap lower e
          ∙ (lower-wire n (any_case-from_lower n (rw same named.labels))
          ∙ (ap wire same ∙ sym e));
      whole = e ∙ ap wire (sym is);
      named = rw is named;
    }

-- two numbers are where their octets are
pub numbers_lie : (m : List ℕ) (p : ℕ) (others : List ℕ) → 4 ≤ length others → SitsAt m p others
    → (u16_at m p ≡ u16_at others 0) × (u16_at m (p + 2) ≡ u16_at others 2)
numbers_lie m p [] long s = absurd (omega (arith, long))
numbers_lie m p (a ∷ []) long s = absurd (omega (arith, long))
numbers_lie m p (a ∷ b ∷ []) long s = absurd (omega (arith, long))
numbers_lie m p (a ∷ b ∷ c ∷ []) long s = absurd (omega (arith, long))
numbers_lie m p (a ∷ b ∷ c ∷ d ∷ r) long s =
    let second = sits_rest m p (a ∷ []) (b ∷ c ∷ d ∷ r) s in
    let third = sits_rest m p (a ∷ b ∷ []) (c ∷ d ∷ r) s in
    let fourth = sits_rest m (p + 2) (c ∷ []) (d ∷ r) third in (
      rw (sits_octet m p a (b ∷ c ∷ d ∷ r) s, sits_octet m (p + 1) b (c ∷ d ∷ r) second) refl,
      rw (sits_octet m (p + 2) c (d ∷ r) third, sits_octet m (p + 2 + 1) d r fourth) refl,
    )

module _ (m : List ℕ) (n : List (List ℕ)) (others : List ℕ) (long : 12 ≤ length m)
    (named : IsName n) (e : drop 12 m ≡ wire n ++ others) where
  -- what follows the header
  sits : SitsAt m 12 (wire n ++ others)
  sits = record {
    front = take 12 m;
    back = [];
    whole =
        sym (take-append-drop 12 m)
        ∙ ap (λ (x : List ℕ). take 12 m ++ x) (e ∙ sym (append-nil (wire n ++ others)));
    place = length-take-le 12 m long;
  }

  pub name_lies : NameAt m 12 12 n (12 + length (wire n))
  name_lies =
      let same = lower_all-same n named.labels in
      lies_written m 12 12 n (any_case-from_lower n (rw same named.labels))
      (sits_first m 12 (wire n) others sits)

  pub question_lies : (spelled : List ℕ) (rtype class : ℕ) → spelled ≡ wire n
      → 4 ≤ length others → rtype ≡ u16_at others 0 → class ≡ u16_at others 2
      → IsQuestion m 12
      (record { spelled = spelled; name = n; rtype = rtype; class = class })
      (12 + length (wire n) + 4)
  question_lies spelled rtype class is_spelled enough is_type is_class =
      let past = 12 + length (wire n) in
      let behind = sits_rest m 12 (wire n) others sits in
      let numbers = numbers_lie m past others enough behind in
      record {
        labels = n;
        past = past;
        name_at = name_lies;
        spelled = is_spelled;
        name = sym (lower_all-same n named.labels);
        named = named;
        fits = omega (arith, enough, sits_within m past others behind);
        rtype = is_type ∙ sym numbers.0;
        class = is_class ∙ sym numbers.1;
        end_is = refl;
      }

-- four octets follow the name of a plain question
pub plain_behind : (m : List ℕ) (h : Header) (q : QuestionData) (n : List (List ℕ))
    (others : List ℕ) → IsName n → drop 12 m ≡ wire n ++ others → IsPlainQuery m h q
    → 4 ≤ length others
plain_behind m h q n others named e plain =
    let asked = plain.query.question in
    let long = plain.query.counted.long in
    let name_at = name_lies m q.name plain.others long asked.named plain.in_full in
    let past : asked.past ≡ 12 + length (wire q.name) =
    (one_reading m 12 12 asked.labels q.name asked.past (12 + length (wire q.name)) asked.name_at
    name_at).1 in
    let same : others ≡ plain.others =
    same_behind (drop 12 m) n q.name others plain.others named asked.named e plain.in_full in
    let behind = sits_rest m 12 (wire q.name) plain.others
    (sits m q.name plain.others long asked.named plain.in_full) in
    let size : length m ≡ 12 + length (wire q.name) + length plain.others =
    ap length (sym (take-append-drop 12 m))
    ∙ (length-append (take 12 m) (drop 12 m)
    ∙ omega (
      arith,
      length-take-le 12 m long,
      ap length plain.in_full,
      length-append (wire q.name) plain.others,
    )) in
    omega (arith, past, asked.fits, size, ap length same)
