-- Which SOA counts.
-- Serves `first_soa`, `soa_for`, `digest`, `digest_along_walk`, `digest_without_walk`, `end_of`,
-- the laws `digest_or_fault`, `one_digest`, and fleet_site, fleet_world.
use Rattle.std.proofs.Common.{◌≡◌, ℕ, ◌+◌, ◌<◌, ◌≤◌, inl, inr, List, [], ◌∷◌, ◌++◌, length, take, drop, get_or, ap, sym, ◌∙◌, refl, arith, subst}
use Rattle.std.proofs.lemmas.List.{length-append, take-append-drop}
use Rattle.fleet_name.specs.Name.{wire, IsUnder}
use Rattle.fleet_wire.specs.Record.{RecordData}
use Rattle.fleet_wire.specs.Shape.{IsPlain}
use Rattle.fleet_observe.specs.Members.{Has}
use Rattle.fleet_observe.specs.DigestOf.{IsSoaRecord, IsFirstSoa, CountsFor}
use Rattle.fleet_observe.proofs.Lists.{split_at}
use Rattle.fleet_wire.specs.declared.rtype.TheConstants.{SOA}

Has-middle : {X : Type 0} (before after : List X) (r : X) → Has (before ++ r ∷ after) r
Has-middle [] after r = inl refl
Has-middle (x ∷ before) after r = inr (Has-middle before after r)

pub first_member : (s : List RecordData) (r : RecordData) → IsFirstSoa s r → Has s r
first_member s r f = subst (λ (x : List RecordData). Has x r) (sym f.is)
    (Has-middle f.before f.after r)

same_first : (b c : List RecordData) (x y : RecordData) (p q : List RecordData) → b ++ x ∷ p ≡ c
    ++ y ∷ q → ((z : RecordData) → Has b z → ¬ IsSoaRecord z)
    → ((z : RecordData) → Has c z → ¬ IsSoaRecord z) → IsSoaRecord x → IsSoaRecord y → x ≡ y
same_first [] [] x y p q e f g i j = cc
same_first [] (z ∷ c) x y p q e f g i j = let k : x ≡ z = cc in
    absurd (g z (inl refl) (subst IsSoaRecord k i))
same_first (z ∷ b) [] x y p q e f g i j = let k : z ≡ y = cc in
    absurd (f z (inl refl) (subst IsSoaRecord (sym k) j))
same_first (z ∷ b) (w ∷ c) x y p q e f g i j = let k : b ++ x ∷ p ≡ c ++ y ∷ q = cc in
    same_first b c x y p q k (λ v h. f v (inr h)) (λ v h. g v (inr h)) i j

-- a section has one first SOA
pub one_first : (s : List RecordData) (x y : RecordData) → IsFirstSoa s x → IsFirstSoa s y → x ≡ y
one_first s x y f g = same_first f.before g.before x y f.after g.after (sym f.is ∙ g.is) f.first
    g.first f.soa g.soa

pub none_counts : (s : List RecordData) (n : List (List ℕ))
    → ((r : RecordData) → Has s r → ¬ IsSoaRecord r) → (r : RecordData) → ¬ CountsFor s n r
none_counts s n none r c = none r (first_member s r c.first) c.first.soa

pub other_counts : (s : List RecordData) (n : List (List ℕ)) (x : RecordData) → IsFirstSoa s x
    → ¬ IsUnder n x.name → (r : RecordData) → ¬ CountsFor s n r
other_counts s n x f out r c = out (subst (λ (y : RecordData). IsUnder n y.name)
    (one_first s r x c.first f) c.under)

pub first_at : (xs : List RecordData) (i : ℕ) (item : RecordData) → i < length xs
    → item ≡ get_or xs i item → ((r : RecordData) → Has (take i xs) r → ¬ IsSoaRecord r)
    → IsSoaRecord item → IsFirstSoa xs item
first_at xs i item within is none soa = record {
  before = take i xs;
  after = drop (i + 1) xs;
  is = sym (take-append-drop i xs) ∙ ap (λ (s : List RecordData). take i xs ++ s)
      (split_at xs i item within is);
  first = none;
  soa = soa;
}

-- the RDATA of an SOA ends with five numbers
pub soa_long : (d : List ℕ) → IsPlain SOA d → 4 ≤ length d
soa_long d plain =
    let one = plain in let two = one.4 in let three = two.4 in
    let a = ap length one.2 ∙ length-append (wire one.0) one.1 in
    let b = ap length two.2 ∙ length-append (wire two.0) two.1 in
    let c = ap length three.2 ∙ length-append three.0 three.1 in
    let n = three.3 in
    omega (arith, a, b, c, n)
