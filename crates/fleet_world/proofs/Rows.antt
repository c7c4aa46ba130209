-- The records of fresh parts are fresh.
-- Serves the laws `fresh`, `withdrawn`.
use Rattle.std.proofs.Common.{◌≡◌, ℕ, ◌<◌, inl, inr, List, [], ◌∷◌, ◌++◌, map, refl, sym, ap, subst, ◌∙◌, append_assoc}
use Rattle.fleet_name.specs.Name.{IsUnder}
use Rattle.fleet_name.specs.Places.{Has}
use Rattle.fleet_name.proofs.Lemmas.{has_either, has_right}
use Rattle.fleet_wire.specs.Record.{RecordData}
use Rattle.fleet_wire.specs.Message.{MessageData, IsReply}
use Rattle.fleet_wire.specs.Outline.{IsLine, HasPlainRdata}
use Rattle.fleet_wire.specs.declared.rtype.TheConstants.{SOA}
use Rattle.fleet_observe.specs.Body.{positive_body}
use Rattle.fleet_observe.specs.DigestOf.{IsFirstSoa}
use Rattle.fleet_observe.specs.RrSet.{IsTtl}
use Rattle.fleet_observe.specs.Observation.{ObservationData, IsObservation, IsNegativeKind}
use Rattle.fleet_observe.specs.declared.observation.kind.Kind.{Kind}
use Rattle.fleet_observe.specs.declared.observation.kind.Kind.TheVariants.{NameError, NoData, Positive, Flush}
use Rattle.fleet_cache.specs.Answer.{ShownData}
use Rattle.fleet_cache.specs.Kinds.{ArePositiveParts}
use Rattle.fleet_site.specs.question.AnswerRecords.{row, AreRows, AreChainRows, IsSoaRow}
use Rattle.fleet_world.specs.FleetModel.{FleetModel}
use Rattle.fleet_world.specs.Run.{Results, Run}
use Rattle.fleet_world.specs.Fresh.{ReplyComesIn, ReplyCameIn, IsOfSet, Allows, IsFreshPart, IsInSet, AllowsRecord}
use Rattle.fleet_world.specs.Withdrawn.{IsFreshAfter}
use Rattle.fleet_world.specs.declared.event.Event.{Event}
use Rattle.fleet_world.specs.declared.event.Event.TheVariants.{Datagram, Tick, Sweep, Frame, Deliver, Learn, Flush as FlushEvent, Merge, Restart}
use Rattle.fleet_world.proofs.Spelled.{positive_exact, negative_exact, authority_named}

-- a reply that came in was read
abbrev pub WasRead : MessageData → Type 0
WasRead reply = (octets : List ℕ) × IsReply octets reply

comes_read : {A : Type 0} (m : FleetModel) (e : Event A) (reply : MessageData) (moment : ℕ)
    → ReplyComesIn m e reply moment → WasRead reply
comes_read m (Learn site now bytes) reply moment h = (bytes, h.2.read)
comes_read m (Datagram site now from word bytes) reply moment h = (bytes, h.3.read)
comes_read m (FlushEvent site now name) reply moment h = absurd h
comes_read m (Tick site now) reply moment h = absurd h
comes_read m (Sweep site) reply moment h = absurd h
comes_read m (Frame site now bytes) reply moment h = absurd h
comes_read m (Deliver site now number) reply moment h = absurd h
comes_read m (Merge into from) reply moment h = absurd h
comes_read m (Restart site) reply moment h = absurd h

pub came_read : {A : Type 0} (m : FleetModel) (es : List (Event A)) (rs : Results A)
    (n : FleetModel) (run : Run m es rs n) (reply : MessageData) (moment : ℕ)
    → ReplyCameIn m es rs n run reply moment → WasRead reply
came_read m (e ∷ es) (r ∷ rs) n run reply moment (inl h) = comes_read m e reply moment h
came_read m (e ∷ es) (r ∷ rs) n run reply moment (inr h) =
    came_read run.0 es rs n run.2 reply moment h
came_read m [] [] n run reply moment h = absurd h
came_read m [] (r ∷ rs) n run reply moment h = absurd h
came_read m (e ∷ es) [] n run reply moment h = absurd h

not_both : (k : Kind) → k ≡ Positive → IsNegativeKind k → ⊥
not_both k p (inl e) = let q : Positive ≡ NameError = sym p ∙ e in cc
not_both k p (inr e) = let q : Positive ≡ NoData = sym p ∙ e in cc

-- a member of an image is one of a member
pub has_map : {X Y : Type 0} (f : X → Y) (xs : List X) (y : Y) → Has (map f xs) y
    → (x : X) × Has xs x × (f x ≡ y)
has_map f [] y h = absurd h
has_map f (x ∷ xs) y (inl e) = (x, inl refl, e)
has_map f (x ∷ xs) y (inr h) = let r = has_map f xs y h in (r.0, inr r.1, r.2)

-- the SOA is a member
pub first_member : (s : List RecordData) (r : RecordData) → IsFirstSoa s r → Has s r
first_member s r is =
    subst (λ xs. Has xs r) (sym is.is) (has_right is.before (r ∷ is.after) r (inl refl))

-- a record of an RRset that the reply has
set_row : (section : List RecordData) (p : ShownData) (ttl : ℕ) (rdatas : List (List ℕ))
    (d : List ℕ) → IsOfSet section p.observation ttl → p.observation.body ≡ positive_body rdatas
    → Has rdatas d → IsInSet section (row p d) ttl
set_row section p ttl rdatas d is body h =
    let e : rdatas ≡ is.set.rdatas = positive_exact rdatas is.set.rdatas (sym body ∙ is.body) in
    record {
      class = refl;
      there = is.is.of_section d (subst (λ xs. Has xs d) e h);
      least = subst (IsTtl section p.observation.name p.observation.rtype) (sym is.ttl_is) is.is.ttl;
    }

allowed_row : (reply : MessageData) (p : ShownData) (ttl : ℕ) (rdatas : List (List ℕ))
    (d : List ℕ) → p.observation.kind ≡ Positive → Allows reply p.observation ttl
    → p.observation.body ≡ positive_body rdatas → Has rdatas d → AllowsRecord reply (row p d) ttl
allowed_row reply p ttl rdatas d positive (inl (k, inl is)) body h =
    inl (set_row reply.answer p ttl rdatas d is body h)
allowed_row reply p ttl rdatas d positive (inl (k, inr (type, is))) body h =
    inr (inl (type, set_row reply.authority p ttl rdatas d is body h))
allowed_row reply p ttl rdatas d positive (inr (k, is)) body h =
    absurd (not_both p.observation.kind positive k)

-- a line of an outline that reads back
pub record IsPlainLine (x : RecordData) : Type 0 where
  pub line_is : IsLine x
  pub plain : HasPlainRdata x

plain_row : (p : ShownData) (rdatas : List (List ℕ)) (d : List ℕ) → IsObservation p.observation
    → p.observation.kind ≡ Positive → p.observation.body ≡ positive_body rdatas → Has rdatas d
    → IsPlainLine (row p d)
plain_row p rdatas d o positive body h =
    let b = (o.positive positive).body in
    let e : rdatas ≡ b.rdatas = positive_exact rdatas b.rdatas (sym body ∙ b.octets) in
    record {
      line_is = record { name = o.named; class = refl };
      plain = b.lawful.plain d (subst (λ xs. Has xs d) e h);
    }

-- what holds of each record of a part holds of its rows
rows_all : (Q : RecordData → Type 0) (p : ShownData) (rows : List RecordData) (x : RecordData)
    → ((rdatas : List (List ℕ)) (d : List ℕ) → p.observation.body ≡ positive_body rdatas
    → Has rdatas d → Q (row p d)) → AreRows p rows → Has rows x → Q x
rows_all Q p rows x f are h =
    let r = has_map (row p) are.0 x (subst (λ xs. Has xs x) are.2 h) in
    subst Q r.2 (f are.0 r.0 are.1 r.1)

-- below what is below a name
under_both : (n a b : List (List ℕ)) → IsUnder n a → IsUnder a b → IsUnder n b
under_both n a b h k =
    (h.0 ++ k.0, h.1 ∙ (ap (λ xs. h.0 ++ xs) k.1 ∙ sym (append_assoc h.0 k.0 b)))

module _ {A : Type 0} (m : FleetModel) (es : List (Event A)) (rs : Results A) (n : FleetModel)
    (run : Run m es rs n) (s : List ObservationData) (t : ℕ) where
  -- what is at the name of a flush of s or below it is stamped after the flush
  abbrev After : List (List ℕ) → ℕ → Type 0
  After name stamp = (flush : ObservationData) → Has s flush → flush.kind ≡ Flush
      → IsUnder name flush.name → flush.stamp < stamp

  -- a part that is fresh, of a lawful observation, and stamped after the flushes
  pub record IsGoodPart (p : ShownData) : Type 0 where
    pub fresh : IsFreshPart m es rs n run t p
    pub lawful : IsObservation p.observation
    pub after : After p.observation.name p.observation.stamp

  -- a record that is fresh and of a reply after the flushes, and reads back
  pub record IsGoodRecord (x : RecordData) : Type 0 where
    pub fresh : IsFreshAfter m es rs n run s t x
    pub line_is : IsPlainLine x

  -- the records of a part
  pub good_rows : (p : ShownData) (rows : List RecordData) (x : RecordData) → IsGoodPart p
      → p.observation.kind ≡ Positive → AreRows p rows → Has rows x → IsGoodRecord x
  good_rows p rows x g positive are h =
      let f = g.fresh in
      rows_all IsGoodRecord p rows x (λ rdatas d body j. record {
        fresh = record {
          fresh = record {
            reply = f.reply;
            moment = f.moment;
            came_in = f.came_in;
            ttl = f.ttl;
            allowed = allowed_row f.reply p f.ttl rdatas d positive f.allowed body j;
            in_time = f.in_time;
            shown = f.shown;
          };
          after = λ flush m is under.
              subst (λ k. flush.stamp < k) f.stamped (g.after flush m is under);
        };
        line_is = plain_row p rdatas d g.lawful positive body j;
      }) are h

  -- of links
  pub good_chain : (ps : List ShownData) (rows : List RecordData) (x : RecordData)
      → ((p : ShownData) → Has ps p → IsGoodPart p) → ArePositiveParts ps
      → AreChainRows ps rows → Has rows x → IsGoodRecord x
  good_chain [] rows x f k are h = absurd (subst (λ xs. Has xs x) are h)
  good_chain (p ∷ ps) rows x f k are h =
      elim (has_either are.0 are.1 x (subst (λ xs. Has xs x) are.4 h)) [
        | inl g ↦ good_rows p are.0 x (f p (inl refl)) k.0 are.2 g
        | inr g ↦ good_chain ps are.1 x (λ q j. f q (inr j)) k.1 are.3 g
      ]

  -- of a denial
  pub good_soa : (p : ShownData) (x : RecordData) → IsGoodPart p
      → ¬ (p.observation.kind ≡ Positive) → IsSoaRow p x → IsGoodRecord x
  good_soa p x g negative is = go f.allowed
    where
      f : IsFreshPart m es rs n run t p
      f = g.fresh

      go : Allows f.reply p.observation f.ttl → IsGoodRecord x
      go (inl k) = absurd (negative k.0)
      go (inr (k, of)) =
          let read = came_read m es rs n run f.reply f.moment f.came_in in
          let first = of.counts.first in
          let named = authority_named read.0 f.reply read.1 of.soa
          (first_member f.reply.authority of.soa first) in
          let same = negative_exact is.0 of.soa.name is.1 of.soa.rdata is.2.named named
          (sym is.3 ∙ of.body) in
          let y : RecordData = record of.soa { ttl = p.ttl } in
          let type : of.soa.rtype ≡ SOA = first.soa.rtype in
          let class = first.soa.class in
          let is_row : x ≡ y = is.4 ∙ (let owner : is.0 ≡ of.soa.name = same.0 in
          let rdata : is.1 ≡ of.soa.rdata = same.1 in cc) in
          record {
            fresh = subst (IsFreshAfter m es rs n run s t) (sym is_row) (record {
              fresh = record {
                reply = f.reply;
                moment = f.moment;
                came_in = f.came_in;
                ttl = f.ttl;
                allowed =
                    inr (inr (record { soa = of.soa; first = first; is = refl; ttl_is = of.ttl_is }));
                in_time = f.in_time;
                shown = f.shown;
              };
              after = λ flush m is_flush under.
                  subst (λ k. flush.stamp < k) f.stamped (g.after flush m is_flush
                  (under_both p.observation.name of.soa.name flush.name of.counts.under under));
            });
            line_is = subst IsPlainLine (sym is.4) (record {
              line_is = record { name = is.2.named; class = refl };
              plain = is.2.plain;
            });
          }
