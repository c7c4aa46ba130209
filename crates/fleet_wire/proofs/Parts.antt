-- The parts of RDATA at a place are read in one way, or have a first fault.
-- Serves `name_at`, `are_plain`, `record_at`, `record_end`, `parts_at`, `parts_end`, `rdata_of`,
-- what `FirstFaults`, `Lawful`, `Records` serve, and fleet_site, fleet_world.
use mathlib.Core.Logic.{inl, inr}
use Rattle.std.proofs.Common.{◌≡◌, ℕ, ◌+◌, ◌<◌, ◌≤◌, List, [], ◌∷◌, ◌++◌, length, take, drop, refl, sym, ap, ◌∙◌, subst, arith, append_assoc, get_or, add-one, drop-cons, Option, Some, None}
use Rattle.std.proofs.Math.ListN.{drop_of_length-le}
use Rattle.std.proofs.lemmas.List.{append-nil}
use Rattle.fleet_name.specs.Name.{wire, lower_all, IsName}
use Rattle.fleet_wire.specs.NameAt.{ReadsName}
use Rattle.fleet_wire.specs.Fault.{NameFails}
use Rattle.fleet_wire.specs.Shape.{PartsAt, PartsFail, ShapeAt, ShapeFails}
use Rattle.fleet_wire.specs.declared.fault.ReadFault.{ReadFault}
use Rattle.fleet_wire.specs.declared.fault.ReadFault.TheVariants.{Truncated, BadRdata, OutOfMemory}
use Rattle.fleet_wire.specs.declared.shape.Part.{Part}
use Rattle.fleet_wire.specs.declared.shape.Part.TheVariants.{Plain, Name}
use Rattle.fleet_wire.proofs.Readings.{one_reading, none_from_fails, ends_within, no_memory}

pub name_or_fault : (m : List ℕ) (p : ℕ) (n : List (List ℕ)) (e : ℕ) (f : ReadFault)
    → ReadsName m p n e → NameFails m p f → ⊥
name_or_fault m p n e f r h =
    none_from_fails m p f r.spelled e h (subst (λ (x : List (List ℕ)). IsName x) r.lowered r.named)
    r.name_at

pub one_reads : (m : List ℕ) (p : ℕ) (a b : List (List ℕ)) (x y : ℕ) → ReadsName m p a x
    → ReadsName m p b y → (a ≡ b) × (x ≡ y)
one_reads m p a b x y one two =
    let same = one_reading m p p one.spelled two.spelled x y one.name_at two.name_at in
    (one.lowered ∙ (ap lower_all same.0 ∙ sym two.lowered), same.1)

pub reads_within : (m : List ℕ) (p : ℕ) (n : List (List ℕ)) (e : ℕ) → ReadsName m p n e
    → e ≤ length m
reads_within m p n e r = ends_within m p p r.spelled e r.name_at

pub reads_named : (m : List ℕ) (p : ℕ) (n : List (List ℕ)) (e : ℕ) → ReadsName m p n e → IsName n
reads_named m p n e r = r.named

pub one_parts : (m : List ℕ) (parts : List Part) (p : ℕ) (a b : List ℕ) (x y : ℕ)
    → PartsAt m parts p a x → PartsAt m parts p b y → (a ≡ b) × (x ≡ y)
one_parts m [] p a b x y one two = (one.0 ∙ sym two.0, one.1 ∙ sym two.1)
one_parts m (Plain n ∷ parts) p a b x y one two =
    let same = one_parts m parts (p + n) one.0 two.0 x y one.2 two.2 in
    (one.3 ∙ (ap (λ (o : List ℕ). take n (drop p m) ++ o) same.0 ∙ sym two.3), same.1)
one_parts m (Name ∷ parts) p a b x y one two =
    let named = one_reads m p one.0 two.0 one.1 two.1 one.3 two.3 in
    let same =
    one_parts m parts one.1 one.2 two.2 x y one.4
    (subst (λ (q : ℕ). PartsAt m parts q two.2 y) (sym named.1) two.4) in (
      one.5 ∙ (ap (λ (o : List ℕ). wire one.0 ++ o) same.0
          ∙ (ap (λ (n : List (List ℕ)). wire n ++ two.2) named.0 ∙ sym two.5)),
      same.1,
    )

pub parts_or_fault : (m : List ℕ) (parts : List Part) (p : ℕ) (o : List ℕ) (e : ℕ) (f : ReadFault)
    → PartsAt m parts p o e → PartsFail m parts p f → ⊥
parts_or_fault m [] p o e f r h = h
parts_or_fault m (Plain n ∷ parts) p o e f r (inl h) = omega (arith, r.1, h.0)
parts_or_fault m (Plain n ∷ parts) p o e f r (inr h) =
    parts_or_fault m parts (p + n) r.0 e f r.2 h.1
parts_or_fault m (Name ∷ parts) p o e f r (inl h) = name_or_fault m p r.0 r.1 f r.3 h
parts_or_fault m (Name ∷ parts) p o e f r (inr h) =
    let named = one_reads m p h.0 r.0 h.1 r.1 h.2 r.3 in
    parts_or_fault m parts r.1 r.2 e f r.4 (subst (λ (q : ℕ). PartsFail m parts q f) named.1 h.3)

pub one_shape : (m : List ℕ) (p k : ℕ) (s : Option (List Part)) (a b : List ℕ) → ShapeAt m p k s a
    → ShapeAt m p k s b → a ≡ b
one_shape m p k None a b one two = one ∙ sym two
one_shape m p k (Some parts) a b one two = (one_parts m parts p a b (p + k) (p + k) one two).0

pub shape_or_fault : (m : List ℕ) (p k : ℕ) (s : Option (List Part)) (o : List ℕ) (f : ReadFault)
    → ShapeAt m p k s o → ShapeFails m p k s f → ⊥
shape_or_fault m p k None o f r h = h
shape_or_fault m p k (Some parts) o f r (inl h) = parts_or_fault m parts p o (p + k) f r h
shape_or_fault m p k (Some parts) o f r (inr h) =
    h.3 (one_parts m parts p h.0 o h.1 (p + k) h.2 r).1

-- out of memory is no fault of parts, nor of RDATA
parts_no_memory : (m : List ℕ) (parts : List Part) (p : ℕ) (f : ReadFault) → PartsFail m parts p f
    → f ≡ OutOfMemory → ⊥
parts_no_memory m [] p f h e = h
parts_no_memory m (Plain n ∷ parts) p f (inl h) e = let t : Truncated ≡ OutOfMemory = sym h.1 ∙ e in
    absurd (cc)
parts_no_memory m (Plain n ∷ parts) p f (inr h) e = parts_no_memory m parts (p + n) f h.1 e
parts_no_memory m (Name ∷ parts) p f (inl h) e = no_memory m p p 1 f h e
parts_no_memory m (Name ∷ parts) p f (inr h) e = parts_no_memory m parts h.1 f h.3 e

pub shape_no_memory : (m : List ℕ) (p k : ℕ) (s : Option (List Part)) (f : ReadFault)
    → ShapeFails m p k s f → f ≡ OutOfMemory → ⊥
shape_no_memory m p k None f h e = h
shape_no_memory m p k (Some parts) f (inl h) e = parts_no_memory m parts p f h e
shape_no_memory m p k (Some parts) f (inr h) e = let t : BadRdata ≡ OutOfMemory = sym h.4 ∙ e in
    absurd (cc)

-- The parts read so far, and what is read from here on.
module _ (m : List ℕ) (parts rest more : List Part) (p at : ℕ) (items new : List ℕ)
    (found : (o : List ℕ) (e : ℕ) → PartsAt m rest at o e → PartsAt m parts p (items ++ o) e)
    (fails : (f : ReadFault) → PartsFail m rest at f → PartsFail m parts p f) where
  module _ (n : ℕ) (is : rest ≡ Plain n ∷ more) where
    pub plain_fails : (f : ReadFault) → PartsFail m (Plain n ∷ more) at f → PartsFail m parts p f
    plain_fails f h = fails f (subst (λ (x : List Part). PartsFail m x at f) (sym is) h)

    pub plain_found : at + n ≤ length m → new ≡ items ++ take n (drop at m) → (past : ℕ)
        → past ≡ at + n → (o : List ℕ) (e : ℕ) → PartsAt m more past o e
        → PartsAt m parts p (new ++ o) e
    plain_found fits wrote past past_is o e r =
        let whole : new ++ o ≡ items ++ (take n (drop at m) ++ o) =
        ap (λ (x : List ℕ). x ++ o) wrote ∙ append_assoc items (take n (drop at m)) o in
        subst (λ (x : List ℕ). PartsAt m parts p x e) (sym whole)
        (found (take n (drop at m) ++ o) e
        (subst (λ (x : List Part). PartsAt m x at (take n (drop at m) ++ o) e) (sym is)
        (o, fits, subst (λ (q : ℕ). PartsAt m more q o e) past_is r, refl)))

  module _ (is : rest ≡ Name ∷ more) where
    pub name_fails : (f : ReadFault) → PartsFail m (Name ∷ more) at f → PartsFail m parts p f
    name_fails f h = fails f (subst (λ (x : List Part). PartsFail m x at f) (sym is) h)

    pub name_found : (n : List (List ℕ)) (past : ℕ) → ReadsName m at n past → new ≡ items ++ wire n
        → (o : List ℕ) (e : ℕ) → PartsAt m more past o e → PartsAt m parts p (new ++ o) e
    name_found n past named wrote o e r =
        let whole : new ++ o ≡ items ++ (wire n ++ o) =
        ap (λ (x : List ℕ). x ++ o) wrote ∙ append_assoc items (wire n) o in
        subst (λ (x : List ℕ). PartsAt m parts p x e) (sym whole)
        (found (wire n ++ o) e
        (subst (λ (x : List Part). PartsAt m x at (wire n ++ o) e) (sym is)
        (n, past, o, named, r, refl)))

-- the k-th part, and those after it
pub part_at : (parts : List Part) (k : ℕ) (d x : Part) → k < length parts → get_or parts k d ≡ x
    → drop k parts ≡ x ∷ drop (k + 1) parts
part_at parts k d x within is = rw (add-one, drop-cons parts k d within, is) refl

-- after the last part nothing is left to read
pub no_more : (m : List ℕ) (parts : List Part) (p at : ℕ) (items : List ℕ) (k : ℕ)
    → ((o : List ℕ) (e : ℕ) → PartsAt m (drop k parts) at o e → PartsAt m parts p (items ++ o) e)
    → length parts ≤ k → PartsAt m parts p items at
no_more m parts p at items k found all =
    let none : drop k parts ≡ [] = drop_of_length-le parts all in
    let whole =
    found [] at (subst (λ (x : List Part). PartsAt m x at [] at) (sym none) (refl, refl)) in
    subst (λ (x : List ℕ). PartsAt m parts p x at) (append-nil items) whole
