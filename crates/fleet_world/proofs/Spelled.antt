-- What octets in a body or in a message spell is one thing, and what was read is lawful.
-- Serves the laws `fresh`, `withdrawn`.
use Rattle.std.proofs.Common.{◌≡◌, ℕ, Bool, true, false, inl, inr, List, [], ◌∷◌, ◌++◌, length, refl, sym, ap, subst, ◌∙◌, append_assoc, arith}
use Rattle.std.specs.List.{flat_map, AllByRecursion}
use Rattle.fleet_name.specs.Name.{wire, IsLabel, IsName}
use Rattle.fleet_name.specs.Places.{Has}
use Rattle.fleet_name.proofs.Lemmas.{split_same, wire_cons}
use Rattle.fleet_wire.specs.Message.{MessageData, IsReply, SectionsAt}
use Rattle.fleet_wire.specs.Record.{RecordData, RecordsAt}
use Rattle.fleet_wire.proofs.Lemmas.{u16_exact}
use Rattle.fleet_observe.specs.Body.{octets_with_length, positive_body, negative_body}

rdatas_exact : (xs ys : List (List ℕ)) → length xs ≡ length ys
    → flat_map octets_with_length xs ≡ flat_map octets_with_length ys → xs ≡ ys
rdatas_exact [] [] n e = refl
rdatas_exact [] (y ∷ ys) n e = absurd (omega (arith, n))
rdatas_exact (x ∷ xs) [] n e = absurd (omega (arith, n))
rdatas_exact (x ∷ xs) (y ∷ ys) n e =
    let p = u16_exact (length x) (length y) (x ++ flat_map octets_with_length xs)
    (y ++ flat_map octets_with_length ys) e in
    let q = split_same x y (flat_map octets_with_length xs) (flat_map octets_with_length ys) p.0 p.1 in
    let head : x ≡ y = q.0 in
    let rest : xs ≡ ys = rdatas_exact xs ys (omega (arith, n)) q.1 in
    cc

-- a positive body is of one list of RDATAs
pub positive_exact : (xs ys : List (List ℕ)) → positive_body xs ≡ positive_body ys → xs ≡ ys
positive_exact xs ys e =
    let p = u16_exact (length xs) (length ys) (flat_map octets_with_length xs)
    (flat_map octets_with_length ys) e in
    rdatas_exact xs ys p.0 p.1

wire_first : (label : List ℕ) (name : List (List ℕ)) (x : List ℕ)
    → wire (label ∷ name) ++ x ≡ length label ∷ (label ++ (wire name ++ x))
wire_first label name x =
    ap (λ (y : List ℕ). y ++ x) (wire_cons label name)
    ∙ ap (λ (y : List ℕ). length label ∷ y) (append_assoc label (wire name) x)

-- names that are followed by octets
wire_split : (a b : List (List ℕ)) (x y : List ℕ) → AllByRecursion IsLabel a
    → AllByRecursion IsLabel b → wire a ++ x ≡ wire b ++ y → (a ≡ b) × (x ≡ y)
wire_split [] [] x y p q e =
    let k : 0 ∷ x ≡ 0 ∷ y = e in
    (refl, cc)
wire_split [] (m ∷ b) x y p q e =
    let k : 0 ∷ x ≡ length m ∷ (m ++ (wire b ++ y)) = e ∙ wire_first m b y in
    let z : 0 ≡ length m = cc in
    absurd (omega (arith, z, q.0.some))
wire_split (l ∷ a) [] x y p q e =
    let k : length l ∷ (l ++ (wire a ++ x)) ≡ 0 ∷ y = sym (wire_first l a x) ∙ e in
    let z : length l ≡ 0 = cc in
    absurd (omega (arith, z, p.0.some))
wire_split (l ∷ a) (m ∷ b) x y p q e =
    let k : length l ∷ (l ++ (wire a ++ x)) ≡ length m ∷ (m ++ (wire b ++ y)) =
    sym (wire_first l a x) ∙ e ∙ wire_first m b y in
    let n : length l ≡ length m = cc in
    let t : l ++ (wire a ++ x) ≡ m ++ (wire b ++ y) = cc in
    let r = split_same l m (wire a ++ x) (wire b ++ y) n t in
    let f = wire_split a b x y p.1 q.1 r.1 in
    let head : l ≡ m = r.0 in
    let rest : a ≡ b = f.0 in
    (cc, f.1)

-- a negative body is of one owner and one RDATA
pub negative_exact : (a b : List (List ℕ)) (d e : List ℕ) → IsName a → IsName b
    → negative_body a d ≡ negative_body b e → (a ≡ b) × (d ≡ e)
negative_exact a b d e p q h =
    let s = wire_split a b (octets_with_length d) (octets_with_length e) p.labels q.labels h in
    (s.0, (u16_exact (length d) (length e) d e s.1).1)

records_named : (m : List ℕ) (p : ℕ) (rs : List RecordData) (e : ℕ) → RecordsAt m p rs e
    → (r : RecordData) → Has rs r → IsName r.name
records_named m p [] e at r h = absurd h
records_named m p (x ∷ rs) e at r (inl q) =
    subst (λ (y : RecordData). IsName y.name) q at.1.name.named
records_named m p (x ∷ rs) e at r (inr h) = records_named m at.0 rs e at.2 r h

sections_named : (m : List ℕ) (past : ℕ) (tc : Bool) (a b : List RecordData)
    → SectionsAt m past tc a b → (r : RecordData) → Has b r → IsName r.name
sections_named m past true a b s r h = absurd (subst (λ xs. Has xs r) s.1 h)
sections_named m past false a b s r h = records_named m s.0 b s.1 s.4 r h

-- the owners of what was read in the authority section are names
pub authority_named : (m : List ℕ) (reply : MessageData) → IsReply m reply
    → (r : RecordData) → Has reply.authority r → IsName r.name
authority_named m reply is r h =
    sections_named m is.past reply.header.tc reply.answer reply.authority is.sections r h
