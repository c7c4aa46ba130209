-- Entries determine their observation, whatever follows them, and have no fault.
-- Serves what `FrameSteps`, `Frames`, `Heads`, `Passing` serve.
use Rattle.std.proofs.Common.{◌≡◌, ℕ, List, ◌++◌, refl, sym, ap, ◌∙◌, subst, arith, append_assoc}
use Rattle.fleet_name.specs.Name.{wire, IsName}
use Rattle.fleet_wire.specs.Number.{u16_octets, u32_octets}
use Rattle.fleet_observe.specs.Body.{positive_body, negative_body, IsNegativeBody}
use Rattle.fleet_observe.specs.Checks.{IsRankOf, IsLifeOf, IsTypeOf}
use Rattle.fleet_observe.specs.Observation.{ObservationData, IsObservation, IsRank, IsLife, kind_number}
use Rattle.fleet_observe.specs.declared.bounds.TheConstants.{LONGEST_LIFE}
use Rattle.fleet_observe.specs.declared.observation.kind.Kind.{Kind}
use Rattle.fleet_observe.specs.declared.observation.kind.Kind.TheVariants.{NameError, NoData, Positive, Flush}
use Rattle.fleet_gossip.specs.Entry.{octet, u64_octets, entry_octets, IsKindIn, IsKindNumber, IsMoment, AreBodyOctets}
use Rattle.fleet_gossip.specs.Faults.{name_fails, behind_name, NegativeFails, BodyFails, EntryFails}
use Rattle.fleet_gossip.specs.declared.fault.FrameFault.{FrameFault}
use Rattle.fleet_gossip.specs.declared.fault.FrameFault.TheVariants.{BadKind, BadRank, BadMoment, BadLife, BadName}
use Rattle.fleet_wire.proofs.Lemmas.{u16_exact, u16_long, u32_exact, u32_long}
use Rattle.fleet_observe.proofs.Lemmas.{any_rank, kind_exact}
use Rattle.fleet_gossip.proofs.EntryLines.{NamedFails, TypeFails, LifeFails, StampFails, RankFails, KindFails}
use Rattle.fleet_gossip.proofs.Numbers.{octet_exact, octet_long, u64_exact, u64_long}
use Rattle.fleet_gossip.proofs.Fields.{field_or_fault, one_field}
use Rattle.fleet_gossip.proofs.Names.{name_exact, name_or_fault, one_name_fault}
use Rattle.fleet_gossip.proofs.Bodies.{positive_exact, positive_or_fault, one_positive_fault, negative_exact, negative_or_fault, one_negative_fault}

-- what the fields of an entry say, one by one
pub record IsEntry (o : ObservationData) : Type 0 where
  pub rank : IsRankOf o.kind o.rank
  pub stamp : IsMoment o.stamp
  pub life : IsLifeOf o.kind o.life
  pub name : IsName o.name
  pub rtype : IsTypeOf o.kind o.rtype
  pub body : AreBodyOctets o.kind o.name o.rtype o.body

-- what depends on the kind
abbrev FitsKind : ObservationData → Kind → Type 0
FitsKind o kind = IsRankOf kind o.rank × IsLifeOf kind o.life × IsTypeOf kind o.rtype
    × AreBodyOctets kind o.name o.rtype o.body

fits_kind : (o : ObservationData) → IsObservation o → (kind : Kind) → o.kind ≡ kind
    → FitsKind o kind
fits_kind o is Positive e = let p = is.positive e in (is.rank, is.life, p.typed, p.body)
fits_kind o is NoData e = let n = is.no_data e in (n.0.rank, n.0.life, n.1, n.0.body)
fits_kind o is NameError e = let n = is.name_error e in (n.0.rank, n.0.life, n.1, n.0.body)
fits_kind o is Flush e = let n = is.flush e in (n.rank, n.life, n.untyped, n.body)

pub entry_of : (o : ObservationData) → IsObservation o → IsEntry o
entry_of o is =
    let fits = fits_kind o is o.kind refl in
    record {
      rank = fits.0;
      stamp = is.stamped;
      life = fits.1;
      name = is.named;
      rtype = fits.2;
      body = fits.3;
    }

rank_of_any : (kind : Kind) (rank : ℕ) → IsRankOf kind rank → IsRank rank
rank_of_any Positive rank is = is
rank_of_any NoData rank is = any_rank rank is
rank_of_any NameError rank is = any_rank rank is
rank_of_any Flush rank is = (omega (arith, is), omega (arith, is))

life_of_any : (kind : Kind) (life : ℕ) → IsLifeOf kind life → IsLife LONGEST_LIFE life
life_of_any Positive life is = is
life_of_any NoData life is = omega (arith, is)
life_of_any NameError life is = omega (arith, is)
life_of_any Flush life is = (omega (arith, is), omega (arith, is))

-- what its fields say makes it an observation
pub fact_of : (o : ObservationData) → IsEntry o → IsObservation o
fact_of o is = record {
  named = is.name;
  rank = rank_of_any o.kind o.rank is.rank;
  stamped = is.stamp;
  life = life_of_any o.kind o.life is.life;
  positive = λ e. let h = fits Positive e in record { typed = h.2; body = h.3 };
  no_data = λ e. let h = fits NoData e in (record { rank = h.0; life = h.1; body = h.3 }, h.2);
  name_error = λ e. let h = fits NameError e in (
    record { rank = h.0; life = h.1; body = h.3 },
    h.2,
  );
  flush = λ e. let h = fits Flush e in record { rank = h.0; life = h.1; untyped = h.2; body = h.3 };
}
  where
    fits : (kind : Kind) → o.kind ≡ kind → FitsKind o kind
    fits kind e = subst (λ (k : Kind). FitsKind o k) e (is.rank, is.life, is.rtype, is.body)

-- an entry, with what follows it bracketed to the right
abbrev pub behind_life : ObservationData → List ℕ → List ℕ
behind_life o rest = wire o.name ++ (u16_octets o.rtype ++ (o.body ++ rest))

pub entry_split : (o : ObservationData) (rest : List ℕ)
    → entry_octets o ++ rest ≡ octet (kind_number o.kind)
    ++ (octet o.rank ++ (u64_octets o.stamp ++ (u32_octets o.life ++ behind_life o rest)))
entry_split o rest = ap (λ (x : List ℕ). octet (kind_number o.kind)
    ++ (octet o.rank ++ (u64_octets o.stamp ++ (u32_octets o.life ++ x))))
    (append_assoc (wire o.name) (u16_octets o.rtype ++ o.body) rest)

-- An entry and the faults of one.
module _ (o : ObservationData) (is : IsEntry o) (rest : List ℕ) (f : FrameFault) where
  denial_or_fault : IsNegativeBody o.name o.body → NegativeFails o.name (o.body ++ rest) f → ⊥
  denial_or_fault b h = negative_or_fault o.name b.owner b.rdata rest (o.body ++ rest) f b.lawful
      (ap (λ (x : List ℕ). x ++ rest) b.octets) h

  body_or_fault : (kind : Kind) → AreBodyOctets kind o.name o.rtype o.body
      → BodyFails kind o.name o.rtype (o.body ++ rest) f → ⊥
  body_or_fault Positive b h = positive_or_fault o.rtype b.rdatas rest (o.body ++ rest) f b.lawful
      (ap (λ (x : List ℕ). x ++ rest) b.octets) h
  body_or_fault NoData b h = denial_or_fault b h
  body_or_fault NameError b h = denial_or_fault b h
  body_or_fault Flush b h = h

  type_or_fault : TypeFails o.kind o.name (u16_octets o.rtype ++ (o.body ++ rest)) f → ⊥
  type_or_fault h = field_or_fault u16_octets 2 (IsTypeOf o.kind) BadKind (BodyFails o.kind o.name)
      u16_long u16_exact o.rtype (o.body ++ rest) _ f refl is.rtype (body_or_fault o.kind is.body) h

  named_or_fault : NamedFails o.kind (behind_life o rest) f → ⊥
  named_or_fault (name_fails h) = name_or_fault BadName o.name
      (u16_octets o.rtype ++ (o.body ++ rest)) (behind_life o rest) f refl is.name h
  named_or_fault (behind_name n r e named h) =
      let k = name_exact n o.name r (u16_octets o.rtype ++ (o.body ++ rest)) named is.name (sym e)
      in
      type_or_fault (subst (λ (x : List ℕ). TypeFails o.kind o.name x f) k.1
      (subst (λ (x : List (List ℕ)). TypeFails o.kind x r f) k.0 h))

  life_or_fault : LifeFails o.kind (u32_octets o.life ++ behind_life o rest) f → ⊥
  life_or_fault h = field_or_fault u32_octets 4 (IsLifeOf o.kind) BadLife
      (λ life. NamedFails o.kind) u32_long u32_exact o.life (behind_life o rest) _ f refl is.life
      named_or_fault h

  stamp_or_fault : StampFails o.kind (u64_octets o.stamp
      ++ (u32_octets o.life ++ behind_life o rest)) f → ⊥
  stamp_or_fault h = field_or_fault u64_octets 8 IsMoment BadMoment (λ stamp. LifeFails o.kind)
      u64_long u64_exact o.stamp (u32_octets o.life ++ behind_life o rest) _ f refl is.stamp
      life_or_fault h

  rank_or_fault : RankFails o.kind (octet o.rank
      ++ (u64_octets o.stamp ++ (u32_octets o.life ++ behind_life o rest))) f → ⊥
  rank_or_fault h = field_or_fault octet 1 (IsRankOf o.kind) BadRank (λ rank. StampFails o.kind)
      octet_long octet_exact o.rank (u64_octets o.stamp
      ++ (u32_octets o.life ++ behind_life o rest)) _ f refl is.rank stamp_or_fault h

  pub entry_or_fault : (version : ℕ) → IsKindIn version o.kind → (octets : List ℕ)
      → octets ≡ entry_octets o ++ rest → EntryFails version octets f → ⊥
  entry_or_fault version known octets e h =
      let behind = octet o.rank ++ (u64_octets o.stamp ++ (u32_octets o.life ++ behind_life o rest))
      in
      field_or_fault octet 1 (IsKindNumber version) BadKind KindFails octet_long octet_exact
      (kind_number o.kind) behind octets f (e ∙ entry_split o rest) (o.kind, refl, known)
      (λ k. rank_or_fault (subst (λ (x : Kind). RankFails x behind f)
      (kind_exact k.0 o.kind (sym k.1)) k.2)) h

-- An entry has one first fault.
one_body_fault : (kind : Kind) (name : List (List ℕ)) (rtype : ℕ) (octets : List ℕ)
    (f g : FrameFault) → BodyFails kind name rtype octets f → BodyFails kind name rtype octets g
    → f ≡ g
one_body_fault Positive name rtype octets f g h h' = one_positive_fault rtype octets f g h h'
one_body_fault NoData name rtype octets f g h h' = one_negative_fault name octets f g h h'
one_body_fault NameError name rtype octets f g h h' = one_negative_fault name octets f g h h'
one_body_fault Flush name rtype octets f g h h' = absurd h

module _ (kind : Kind) where
  one_type_fault : (name : List (List ℕ)) (octets : List ℕ) (f g : FrameFault)
      → TypeFails kind name octets f → TypeFails kind name octets g → f ≡ g
  one_type_fault name octets f g h h' = one_field u16_octets 2 (IsTypeOf kind) BadKind
      (BodyFails kind name) u16_long u16_exact
      (λ n r f' g' l k k'. one_body_fault kind name n r f' g' k k') octets f g h h'

  one_named_fault : (octets : List ℕ) (f g : FrameFault) → NamedFails kind octets f
      → NamedFails kind octets g → f ≡ g
  one_named_fault octets f g (name_fails h) (name_fails h') = one_name_fault BadName octets f g h h'
  one_named_fault octets f g (name_fails h) (behind_name n r e named h') =
      absurd (name_or_fault BadName n r octets f e named h)
  one_named_fault octets f g (behind_name n r e named h) (name_fails h') =
      absurd (name_or_fault BadName n r octets g e named h')
  one_named_fault octets f g (behind_name n r e named h) (behind_name n' r' e' named' h') =
      let k = name_exact n' n r' r named' named (sym e' ∙ e) in
      one_type_fault n r f g h (subst (λ (x : List ℕ). TypeFails kind n x g) k.1
      (subst (λ (x : List (List ℕ)). TypeFails kind x r' g) k.0 h'))

  one_life_fault : (octets : List ℕ) (f g : FrameFault) → LifeFails kind octets f
      → LifeFails kind octets g → f ≡ g
  one_life_fault octets f g h h' = one_field u32_octets 4 (IsLifeOf kind) BadLife
      (λ life. NamedFails kind) u32_long u32_exact
      (λ n r f' g' l k k'. one_named_fault r f' g' k k') octets f g h h'

  one_stamp_fault : (octets : List ℕ) (f g : FrameFault) → StampFails kind octets f
      → StampFails kind octets g → f ≡ g
  one_stamp_fault octets f g h h' = one_field u64_octets 8 IsMoment BadMoment
      (λ stamp. LifeFails kind) u64_long u64_exact (λ n r f' g' l k k'. one_life_fault r f' g' k k')
      octets f g h h'

  one_rank_fault : (octets : List ℕ) (f g : FrameFault) → RankFails kind octets f
      → RankFails kind octets g → f ≡ g
  one_rank_fault octets f g h h' = one_field octet 1 (IsRankOf kind) BadRank
      (λ rank. StampFails kind) octet_long octet_exact
      (λ n r f' g' l k k'. one_stamp_fault r f' g' k k') octets f g h h'

one_kind_fault : (number : ℕ) (octets : List ℕ) (f g : FrameFault) → KindFails number octets f
    → KindFails number octets g → f ≡ g
one_kind_fault number octets f g h h' =
    let same = kind_exact h'.0 h.0 (sym h'.1 ∙ h.1) in
    one_rank_fault h.0 octets f g h.2 (subst (λ (k : Kind). RankFails k octets g) same h'.2)

pub one_entry_fault : (version : ℕ) (octets : List ℕ) (f g : FrameFault)
    → EntryFails version octets f → EntryFails version octets g → f ≡ g
one_entry_fault version octets f g h h' = one_field octet 1 (IsKindNumber version) BadKind KindFails
    octet_long octet_exact (λ n r f' g' l k k'. one_kind_fault n r f' g' k k') octets f g h h'

fact_with : Kind × ℕ × ℕ × ℕ × List (List ℕ) × ℕ × List ℕ → ObservationData
fact_with p = record {
  kind = p.0;
  rank = p.1;
  stamp = p.2;
  life = p.3;
  name = p.4;
  rtype = p.5;
  body = p.6;
}

pub fact_same : (o p : ObservationData) → o.kind ≡ p.kind → o.rank ≡ p.rank → o.stamp ≡ p.stamp
    → o.life ≡ p.life → o.name ≡ p.name → o.rtype ≡ p.rtype → o.body ≡ p.body → o ≡ p
unfolding fact_with
fact_same o p kind rank stamp life name rtype body =
    let h : fact_with (o.kind, o.rank, o.stamp, o.life, o.name, o.rtype, o.body)
    ≡ fact_with (p.kind, p.rank, p.stamp, p.life, p.name, p.rtype, p.body) = cc in h

-- Two bodies of one kind at the front of the same octets.
module _ (name : List (List ℕ)) (b d r s : List ℕ) (e : b ++ r ≡ d ++ s) where
  denials_exact : IsNegativeBody name b → IsNegativeBody name d → (b ≡ d) × (r ≡ s)
  denials_exact x y =
      let whole : negative_body x.owner x.rdata ++ r ≡ negative_body y.owner y.rdata ++ s =
      sym (ap (λ (z : List ℕ). z ++ r) x.octets) ∙ (e ∙ ap (λ (z : List ℕ). z ++ s) y.octets) in
      let h = negative_exact name x.owner y.owner x.rdata y.rdata r s x.lawful y.lawful whole in
      (x.octets ∙ (h.0 ∙ sym y.octets), h.1)

  bodies_exact : (kind : Kind) (rtype : ℕ) → AreBodyOctets kind name rtype b
      → AreBodyOctets kind name rtype d
      → (b ≡ d) × (r ≡ s)
  bodies_exact Positive rtype x y =
      let whole : positive_body x.rdatas ++ r ≡ positive_body y.rdatas ++ s =
      sym (ap (λ (z : List ℕ). z ++ r) x.octets) ∙ (e ∙ ap (λ (z : List ℕ). z ++ s) y.octets) in
      let h = positive_exact rtype x.rdatas y.rdatas r s x.lawful y.lawful whole in
      (x.octets ∙ (ap positive_body h.0 ∙ sym y.octets), h.1)
  bodies_exact NoData rtype x y = denials_exact x y
  bodies_exact NameError rtype x y = denials_exact x y
  bodies_exact Flush rtype x y = (
    x ∙ sym y,
    sym (ap (λ (z : List ℕ). z ++ r) x) ∙ (e ∙ ap (λ (z : List ℕ). z ++ s) y),
  )

-- Two entries at the front of the same octets.
module _ (o p : ObservationData) (is : IsEntry o) (is' : IsEntry p) (r s : List ℕ) where
  body_moved : p.kind ≡ o.kind → p.name ≡ o.name → p.rtype ≡ o.rtype
      → AreBodyOctets o.kind o.name o.rtype p.body
  body_moved kind name rtype =
      subst (λ (k : Kind). AreBodyOctets k o.name o.rtype p.body) kind
      (subst (λ (n : List (List ℕ)). AreBodyOctets p.kind n o.rtype p.body) name
      (subst (λ (t : ℕ). AreBodyOctets p.kind p.name t p.body) rtype is'.body))

  pub entry_exact : entry_octets o ++ r ≡ entry_octets p ++ s → (o ≡ p) × (r ≡ s)
  entry_exact e =
      let whole = sym (entry_split o r) ∙ (e ∙ entry_split p s) in
      let number = octet_exact (kind_number o.kind) (kind_number p.kind) _ _ whole in
      let kind = kind_exact o.kind p.kind number.0 in
      let rank = octet_exact o.rank p.rank _ _ number.1 in
      let stamp = u64_exact o.stamp p.stamp _ _ rank.1 in
      let life = u32_exact o.life p.life _ _ stamp.1 in
      let name = name_exact o.name p.name _ _ is.name is'.name life.1 in
      let rtype = u16_exact o.rtype p.rtype _ _ name.1 in
      let body = bodies_exact o.name o.body p.body r s rtype.1 o.kind o.rtype is.body
      (body_moved (sym kind) (sym name.0) (sym rtype.0)) in
      (fact_same o p kind rank.0 stamp.0 life.0 name.0 rtype.0 body.0, body.1)
