-- Which reply an observation is of, and how long the reply allows to use it.
-- Serves the laws `fresh`, `withdrawn`.
use Rattle.std.proofs.Common.{◌≡◌, ℕ, max, Bool, true, false, if◌then◌else◌, inl, inr, List, [], ◌∷◌, length, refl, sym, ap, subst, ◌∙◌, nat_eq, nat_lt, Option, Some, None}
use Rattle.fleet_name.specs.Places.{Has}
use Rattle.fleet_name.proofs.Lemmas.{has_either}
use Rattle.fleet_wire.specs.Message.{MessageData}
use Rattle.fleet_wire.specs.declared.rtype.TheConstants.{CNAME, NS}
use Rattle.fleet_observe.specs.declared.bounds.TheConstants.{LONGEST_BODY}
use Rattle.fleet_observe.specs.declared.rank.TheConstants.{AUTHORITY}
use Rattle.fleet_observe.specs.declared.observation.kind.Kind.{Kind}
use Rattle.fleet_observe.specs.declared.observation.kind.Kind.TheVariants.{NameError, NoData as KindNoData, Flush}
use Rattle.fleet_observe.specs.Body.{negative_body}
use Rattle.fleet_observe.specs.Observation.{ObservationData, IsNegativeKind}
use Rattle.fleet_observe.specs.Observations.{living_observation, fitting_observation, set_observation, positive_observations, soa_observation, denial_observations, answer_rank, link_observations, end_observations, ns_observations, reply_observations, denial_rank, IsObserved}
use Rattle.fleet_observe.specs.RrSet.{RrSetData, IsRrSet}
use Rattle.fleet_observe.specs.Soa.{SoaData}
use Rattle.fleet_observe.specs.Walk.{AreLinks, last}
use Rattle.fleet_observe.proofs.Lemmas.{denied_is}
use Rattle.fleet_observe.specs.Digest.{EndData, Records, NoData, NxDomain, Code, Truncated, DigestData, denied_by}
use Rattle.fleet_observe.specs.DigestOf.{IsSoaOf, IsSoa, WalkEndsAs, EndsAs, IsAuthority, IsDigest}
use Rattle.fleet_world.specs.FleetModel.{FleetModel}
use Rattle.fleet_world.specs.Run.{Results, Run}
use Rattle.fleet_world.specs.Origin.{IsOfReply, Teaches, Stems}
use Rattle.fleet_world.specs.Fresh.{IsMeant, ReplyComesIn, ReplyCameIn, Allows}
use Rattle.fleet_world.specs.declared.event.Event.{Event}
use Rattle.fleet_world.specs.declared.event.Event.TheVariants.{Datagram, Tick, Sweep, Frame, Deliver, Learn, Flush as FlushEvent, Merge, Restart}

-- an observation at its moment, and with the life that the reply allows
pub record IsDated (r : MessageData) (moment : ℕ) (o : ObservationData) : Type 0 where
  pub stamped : o.stamp ≡ moment
  pub allowed : Allows r o o.life

living : (o x : ObservationData) → Has (living_observation o) x → o ≡ x
living o x h = go (nat_eq o.life 0) h
  where
    go : (b : Bool) → Has (if b then [] else o ∷ []) x → o ≡ x
    go true k = absurd k
    go false (inl e) = e
    go false (inr k) = absurd k

fitting : (o x : ObservationData) → Has (fitting_observation o) x → o ≡ x
fitting o x h = go (nat_lt LONGEST_BODY (length o.body)) h
  where
    go : (b : Bool) → Has (if b then [] else living_observation o) x → o ≡ x
    go true k = absurd k
    go false k = living o x k

module _ (r : MessageData) (moment : ℕ) where
  -- of an RRset of the answer section, and of the authority section
  of_answer : (n : List (List ℕ)) (t : ℕ) (x : RrSetData) (rank : ℕ) (o : ObservationData)
      → IsRrSet r.answer n t x → Has (positive_observations x rank moment) o → IsDated r moment o
  of_answer n t x rank o is h =
      subst (IsDated r moment) (fitting (set_observation x rank moment) o h) (record {
        stamped = refl;
        allowed = inl (
          refl,
          inl (record {
            set = x;
            is = subst (λ (k : ℕ). IsRrSet r.answer x.name k x) (sym is.rtype)
                (subst (λ (k : List (List ℕ)). IsRrSet r.answer k t x) (sym is.name) is);
            body = refl;
            ttl_is = refl;
          }),
        );
      })

  of_authority : (n : List (List ℕ)) (x : RrSetData) (rank : ℕ) (o : ObservationData)
      → IsRrSet r.authority n NS x → Has (positive_observations x rank moment) o → IsDated r moment o
  of_authority n x rank o is h =
      subst (IsDated r moment) (fitting (set_observation x rank moment) o h) (record {
        stamped = refl;
        allowed = inl (
          refl,
          inr (
            is.rtype,
            record {
              set = x;
              is = subst (λ (k : ℕ). IsRrSet r.authority x.name k x) (sym is.rtype)
                  (subst (λ (k : List (List ℕ)). IsRrSet r.authority k NS x) (sym is.name) is);
              body = refl;
              ttl_is = refl;
            },
          ),
        );
      })

  of_soa : (kind : Kind) (n : List (List ℕ)) (t rank : ℕ) (x : SoaData) (o : ObservationData)
      → IsNegativeKind kind → IsSoaOf r.authority n x
      → Has (living_observation (soa_observation kind n t rank moment x)) o → IsDated r moment o
  of_soa kind n t rank x o negative is h =
      subst (IsDated r moment) (living (soa_observation kind n t rank moment x) o h) (record {
        stamped = refl;
        allowed = inr (
          negative,
          record {
            soa = is.carrier;
            counts = is.counts;
            body = ap (λ k. negative_body k x.rdata) is.owner ∙ ap (negative_body is.carrier.name) is.rdata;
            ttl_is = is.ttl;
          },
        );
      })

  links : (aa : Bool) (q n : List (List ℕ)) (later : List (List (List ℕ))) (chain : List RrSetData)
      (o : ObservationData) → AreLinks r.answer n later chain
      → Has (link_observations aa q moment chain) o → IsDated r moment o
  links aa q n [] [] o l h = absurd h
  links aa q n [] (x ∷ xs) o l h = absurd l
  links aa q n (m ∷ later) [] o l h = absurd h
  links aa q n (m ∷ later) (x ∷ xs) o l h =
      elim (has_either (positive_observations x (answer_rank aa q x.name) moment) _ o h) [
        | inl k ↦ of_answer n CNAME x (answer_rank aa q x.name) o l.0 k
        | inr k ↦ links aa q m later xs o l.1 k
      ]

  denial : (kind : Kind) (n : List (List ℕ)) (t rank : ℕ) (soa : Option SoaData)
      (o : ObservationData) → IsNegativeKind kind
      → ((x : SoaData) → soa ≡ Some x → IsSoaOf r.authority n x)
      → Has (denial_observations kind n t rank moment soa) o → IsDated r moment o
  denial kind n t rank None o negative is h = absurd h
  denial kind n t rank (Some x) o negative is h = of_soa kind n t rank x o negative (is x refl) h

  -- the name that is denied
  walked : (d : DigestData) (e : EndData) → d.name ≡ r.question.name → (w : WalkEndsAs r d.chain e)
      → denied_by d.name d.chain ≡ last r.question.name w.later
  walked d e name w =
      ap (λ (k : List (List ℕ)). denied_by k d.chain) name
      ∙ denied_is r.answer r.question.rtype r.question.name w.later d.chain w.walk.path w.links

  ns_sets : (sets : List RrSetData) (o : ObservationData)
      → ((x : RrSetData) → Has sets x → IsRrSet r.authority x.name NS x)
      → Has (ns_observations moment sets) o → IsDated r moment o
  ns_sets [] o each h = absurd h
  ns_sets (x ∷ xs) o each h =
      elim (has_either (positive_observations x AUTHORITY moment) _ o h) [
        | inl k ↦ of_authority x.name x AUTHORITY o (each x (inl refl)) k
        | inr k ↦ ns_sets xs o (λ y m. each y (inr m)) k
      ]

  authority : (d : DigestData) (o : ObservationData) → IsAuthority r d.ns
      → Has (ns_observations moment d.ns) o → IsDated r moment o
  authority d o (inl a) h = ns_sets d.ns o a.1.each h
  authority d o (inr a) h = absurd (subst (λ xs. Has (ns_observations moment xs) o) a.1 h)

  chain_of_none : (d : DigestData) (o : ObservationData) → d.chain ≡ []
      → Has (link_observations d.aa d.name moment d.chain) o → IsDated r moment o
  chain_of_none d o e h =
      absurd (subst (λ xs. Has (link_observations d.aa d.name moment xs) o) e h)

  chain_of_walk : (d : DigestData) (o : ObservationData) (e : EndData) → WalkEndsAs r d.chain e
      → Has (link_observations d.aa d.name moment d.chain) o → IsDated r moment o
  chain_of_walk d o e w h = links d.aa d.name r.question.name w.later d.chain o w.links h

  chained : (d : DigestData) (e : EndData) (o : ObservationData) → EndsAs r d.chain e
      → Has (link_observations d.aa d.name moment d.chain) o → IsDated r moment o
  chained d Truncated o is h = chain_of_none d o is.1 h
  chained d (Code c) o is h = chain_of_none d o is.4 h
  chained d (Records x) o is h = chain_of_walk d o (Records x) is h
  chained d (NoData soa) o is h = chain_of_walk d o (NoData soa) is h
  chained d (NxDomain soa) o is h = chain_of_walk d o (NxDomain soa) is h

  counted : (n k : List (List ℕ)) (soa : Option SoaData) (x : SoaData) → k ≡ n
      → IsSoa r.authority n soa → soa ≡ Some x → IsSoaOf r.authority k x
  counted n k soa x e is q =
      subst (λ (y : List (List ℕ)). IsSoaOf r.authority y x) (sym e)
      (let P : Option SoaData → Type 0 = λ y. IsSoa r.authority n y in subst P q is)

  ended : (d : DigestData) (e : EndData) (o : ObservationData) → d.name ≡ r.question.name
      → EndsAs r d.chain e → Has (end_observations d moment e) o → IsDated r moment o
  ended d Truncated o name is h = absurd h
  ended d (Code c) o name is h = absurd h
  ended d (Records x) o name is h =
      of_answer (last r.question.name is.later) r.question.rtype x
      (answer_rank d.aa d.name x.name) o is.end_is h
  ended d (NoData soa) o name is h =
      denial KindNoData (denied_by d.name d.chain) d.rtype (denial_rank d.aa d.chain) soa o (inr refl)
      (λ x q. counted (last r.question.name is.later) (denied_by d.name d.chain) soa x
      (walked d (NoData soa) name is) is.end_is.2 q) h
  ended d (NxDomain soa) o name is h =
      denial NameError (denied_by d.name d.chain) 0 (denial_rank d.aa d.chain) soa o (inl refl)
      (λ x q. counted (last r.question.name is.later) (denied_by d.name d.chain) soa x
      (walked d (NxDomain soa) name is) is.end_is.2 q) h

  -- an observation of a reply has its moment, and the life that the reply allows
  pub dated : (d : DigestData) (o : ObservationData) → IsDigest r d
      → Has (reply_observations d moment) o → IsDated r moment o
  dated d o is h =
      elim (has_either (link_observations d.aa d.name moment d.chain) _ o h) [
        | inl k ↦ chained d d.end o is.ends_as k
        | inr k ↦ elim (has_either (end_observations d moment d.end) _ o k) [
          | inl l ↦ ended d d.end o is.name is.ends_as l
          | inr l ↦ authority d o is.authority l
        ]
      ]

-- an observation is of a reply that came in in the run
pub record IsSourced {A : Type 0} (m : FleetModel) (es : List (Event A)) (rs : Results A)
    (n : FleetModel) (run : Run m es rs n) (o : ObservationData) : Type 0 where
  pub reply : MessageData
  pub moment : ℕ
  pub came_in : ReplyCameIn m es rs n run reply moment
  pub observations : List ObservationData
  pub observed : IsObserved reply moment observations
  pub among : Has observations o

-- what an event teaches and is no flush is of the reply that comes in with it
record IsTaught {A : Type 0} (m : FleetModel) (e : Event A) (o : ObservationData) : Type 0 where
  reply : MessageData
  moment : ℕ
  comes_in : ReplyComesIn m e reply moment
  observations : List ObservationData
  observed : IsObserved reply moment observations
  among : Has observations o

meant : (octets : List ℕ) {moment : ℕ} {o : ObservationData} (h : IsOfReply octets moment o)
    → IsMeant octets h.reply
meant octets h = record {
  read = h.read;
  digest = h.observed.digest;
  meaning = h.observed.meaning;
}

taught : {A : Type 0} (m : FleetModel) (e : Event A) (o : ObservationData) → ¬ (o.kind ≡ Flush)
    → Teaches m e o → IsTaught m e o
taught m (Learn site now bytes) o other h = record {
  reply = h.2.reply;
  moment = max h.0.site.clock now;
  comes_in = (h.0, h.1, meant bytes h.2, refl);
  observations = h.2.observations;
  observed = h.2.observed;
  among = h.2.among;
}
taught m (Datagram site now from word bytes) o other h = record {
  reply = h.3.reply;
  moment = max h.0.site.clock now;
  comes_in = (h.0, h.1, h.2, meant bytes h.3, refl);
  observations = h.3.observations;
  observed = h.3.observed;
  among = h.3.among;
}
taught m (FlushEvent site now name) o other h =
    absurd (other (ap (λ (x : ObservationData). x.kind) h.2))
taught m (Tick site now) o other h = absurd h
taught m (Sweep site) o other h = absurd h
taught m (Frame site now bytes) o other h = absurd h
taught m (Deliver site now number) o other h = absurd h
taught m (Merge into from) o other h = absurd h
taught m (Restart site) o other h = absurd h

-- what stems from the run and is no flush is of a reply that came in in it
pub sourced : {A : Type 0} (m : FleetModel) (es : List (Event A)) (rs : Results A) (n : FleetModel)
    (run : Run m es rs n) (o : ObservationData) → ¬ (o.kind ≡ Flush) → Stems m es rs n run o
    → IsSourced m es rs n run o
sourced m (e ∷ es) (r ∷ rs) n run o other (inl h) = let t = taught m e o other h in record {
  reply = t.reply;
  moment = t.moment;
  came_in = inl t.comes_in;
  observations = t.observations;
  observed = t.observed;
  among = t.among;
}
sourced m (e ∷ es) (r ∷ rs) n run o other (inr h) =
    let t = sourced run.0 es rs n run.2 o other h in record {
      reply = t.reply;
      moment = t.moment;
      came_in = inr t.came_in;
      observations = t.observations;
      observed = t.observed;
      among = t.among;
    }
sourced m [] [] n run o other h = absurd h
sourced m [] (r ∷ rs) n run o other h = absurd h
sourced m (e ∷ es) [] n run o other h = absurd h
