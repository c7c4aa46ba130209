-- The faults of a table, part by part.
-- Serves `find_in_items`, `find_in_keys`, `find_in_list`, `find_together`, `find_twice`,
-- `findings_in`.
use Rattle.std.proofs.Common.{◌≡◌, ◌≢◌, ◌↔◌, ℕ, ◌<◌, ◌≤◌, ◌⊎◌, List, [], ◌∷◌, ◌++◌, length, Ok, Err, refl, sym, ap, ◌∙◌, subst, inl, inr, append_assoc, length-append, string_bytes, arith}
use Rattle.std.proofs.lemmas.List.{append-nil, map-append}
use Rattle.std.proofs.lemmas.List.Elements.{All-push}
use Rattle.std.specs.Result.{result_err}
use Rattle.toml.specs.Data.{Members}
use Rattle.toml.specs.View.{members_view}
use Rattle.toml.proofs.Views.{Entry}
use Rattle.fleet_pending.specs.declared.addr.Addr.{Addr}
use Rattle.fleet_pending.specs.declared.bounds.TheConstants.{MOST_UPSTREAMS}
use Rattle.fleet_site.specs.ConfigData.{HasUpstreams, HasPeers, AreApart, IsConfigData}
use Rattle.fleet_site.specs.Config.{no_upstream, many_upstreams, many_peers, same_address}
use Rattle.fleet_site.specs.declared.bounds.TheConstants.{MOST_PEERS}
use Rattle.fleet_site.specs.declared.config.ConfigFault.TheVariants as why
use Rattle.fleet_program.specs.Configuration.{HasKeys, IsKey, Reading, ReadsListen, ReadsUpstreams, ReadsPeers, ReadsSweep, TableSays, FirstFault, of_keys, of_listen, of_upstreams, of_peers, of_sweep, together, listen_in, upstreams_in, peers_in, sweep_in}
use Rattle.fleet_program.specs.Findings.{Adds, none, some, AddsSome, Extends, FailsTogether, ListsFaults, faults_of, listed}
use Rattle.fleet_program.specs.declared.findings.Finding.{Finding}
use Rattle.fleet_program.specs.declared.settings.Settings.{Settings}
use Rattle.fleet_program.specs.declared.settings.SettingsFault.{SettingsFault}
use Rattle.fleet_program.specs.declared.settings.SettingsFault.TheVariants.{UnknownKey, NoUpstream, TooManyUpstreams, TooManyPeers, AddressTwice}

-- the keys of a table are good where these entries have good ones, or faults were added
abbrev pub IfKeys : Members → List Entry → List SettingsFault → List SettingsFault → Type 0
IfKeys table es a b = Adds (HasKeys (members_view es) ↔ HasKeys table)
    (λ fault. (HasKeys table → ⊥) × (fault ≡ UnknownKey)) a b

-- one more finding is one more fault
pub one_more : (xs ys : List Finding) (x : Finding) → ys ≡ xs ++ x ∷ []
    → faults_of ys ≡ faults_of xs ++ x.fault ∷ []
one_more xs ys x e = ap faults_of e ∙ map-append (λ f. f.fault) xs (x ∷ [])

-- where others were added twice, others were added
pub extends_on : (a b c : List SettingsFault) → Extends a b → Extends b c → Extends a c
extends_on a b c (x, e) (y, f) =
    (x ++ y, f ∙ (ap (λ l. l ++ y) e ∙ append_assoc a x y))

-- faults of a part are others
pub adds_others : (P : Type 0) (Q : SettingsFault → Type 0) (a b : List SettingsFault)
    → Adds P Q a b → Extends a b
adds_others P Q a b (none good e) = ([], e ∙ sym (append-nil a))
adds_others P Q a b (some fault others first e) = (fault ∷ others, e)

-- two parts, one after the other: their first fault is that of the first one, or else of the second
pub adds_on : (P P' R : Type 0) (Q Q' S : SettingsFault → Type 0) (a b c : List SettingsFault)
    → Adds P Q a b → Adds P' Q' b c → ((fault : SettingsFault) → Q fault → S fault)
    → ((fault : SettingsFault) → P → Q' fault → S fault) → (P → P' → R) → Adds R S a c
adds_on P P' R Q Q' S a b c (some x xs first e) next f g h =
    let more = adds_others P' Q' b c next in
    some x (xs ++ more.0) (f x first)
    (more.1 ∙ (ap (λ l. l ++ more.0) e ∙ append_assoc a (x ∷ xs) more.0))
adds_on P P' R Q Q' S a b c (none good e) (some x xs first q) f g h =
    some x xs (g x good first) (q ∙ ap (λ l. l ++ x ∷ xs) e)
adds_on P P' R Q Q' S a b c (none good e) (none fine q) f g h = none (h good fine) (q ∙ e)

-- that a part is good says more
pub adds_as : (P P' : Type 0) (Q : SettingsFault → Type 0) (a b : List SettingsFault) → (P → P')
    → Adds P Q a b → Adds P' Q a b
adds_as P P' Q a b f (none good e) = none (f good) e
adds_as P P' Q a b f (some fault others first e) = some fault others first e

-- one more key of a table was looked at
pub keys_on : (table : Members) (es rest : List Entry) (e : Entry) (a b c : List SettingsFault)
    → es ≡ e ∷ rest → IfKeys table es a b
    → Adds (IsKey (string_bytes e.0))
    (λ fault. (IsKey (string_bytes e.0) → ⊥) × (fault ≡ UnknownKey)) b c
    → IfKeys table rest a c
keys_on table es rest e a b c s h k =
    adds_on (HasKeys (members_view es) ↔ HasKeys table) (IsKey (string_bytes e.0))
    (HasKeys (members_view rest) ↔ HasKeys table)
    (λ fault. (HasKeys table → ⊥) × (fault ≡ UnknownKey))
    (λ fault. (IsKey (string_bytes e.0) → ⊥) × (fault ≡ UnknownKey))
    (λ fault. (HasKeys table → ⊥) × (fault ≡ UnknownKey)) a b c h k (λ fault q. q)
    (λ fault same bad. ((λ all. bad.0 (split (same.1 all)).0), bad.1))
    (λ same key. ((λ more. same.0 (join (key, more))), (λ all. (split (same.1 all)).1)))
  where
    split : HasKeys (members_view es) → HasKeys (members_view (e ∷ rest))
    split keys = subst (λ l. HasKeys (members_view l)) s keys

    join : HasKeys (members_view (e ∷ rest)) → HasKeys (members_view es)
    join keys = subst (λ l. HasKeys (members_view l)) (sym s) keys

-- a fault was added some times, and once more
pub some_more : (fault : SettingsFault) (a b c : List SettingsFault) → AddsSome fault a b
    → c ≡ b ++ fault ∷ [] → AddsSome fault a c
some_more fault a b c (xs, e, same) f = (
  xs ++ fault ∷ [],
  f ∙ (ap (λ l. l ++ fault ∷ []) e ∙ append_assoc a xs (fault ∷ [])),
  All-push (λ x. x ≡ fault) xs fault same refl,
)

-- a fault of a list is added once for each entry that has it, or else once: it is the first
pub list_adds : (P : Type 0) (Q : SettingsFault → Type 0) (fault : SettingsFault)
    (a b c d : List SettingsFault) → Q fault → AddsSome fault a b
    → ((length b ≡ length a) × (c ≡ b ++ fault ∷ [])) ⊎ ((length b ≢ length a) × (c ≡ b))
    → Extends c d → Adds P Q a d
list_adds P Q fault a b c d first ([], e, same) (inl h) (more, f) =
    some fault more first
    (f ∙ (ap (λ l. l ++ more) (h.1 ∙ ap (λ l. l ++ fault ∷ []) (e ∙ append-nil a))
    ∙ append_assoc a (fault ∷ []) more))
list_adds P Q fault a b c d first ([], e, same) (inr h) (more, f) =
    absurd (h.0 (ap length (e ∙ append-nil a)))
list_adds P Q fault a b c d first (x ∷ xs, e, same) (inl h) (more, f) =
    absurd (omega (arith, h.0, ap length e, length-append a (x ∷ xs)))
list_adds P Q fault a b c d first (x ∷ xs, e, same) (inr h) (more, f) =
    some x (xs ++ more) (subst Q (sym (same 0 fault (omega arith))) first)
    (f ∙ (ap (λ l. l ++ more) (h.1 ∙ e) ∙ append_assoc a (x ∷ xs) more))

-- the first fault of a table stays the first one, whatever is added
first_stays : (table : Members) (fault : SettingsFault) (others b c : List SettingsFault)
    → FirstFault table fault → b ≡ fault ∷ others → Extends b c → ListsFaults table c
first_stays table fault others b c first e (more, f) =
    let whole : c ≡ fault ∷ (others ++ more) = f ∙ ap (λ l. l ++ more) e in
    subst (λ (l : List SettingsFault). ListsFaults table l) (sym whole) first

-- a value whose reading gave a fault, or none
pub adds_reading : (T : Type 0) (Reads : Reading T → Type 0) (reading : Reading T)
    (a b : List SettingsFault) → Reads reading → b ≡ a ++ listed (result_err reading)
    → Adds ((t : T) × Reads (Ok t)) (λ fault. Reads (Err fault)) a b
adds_reading T Reads (Ok t) a b h e = none (t, h) (e ∙ append-nil a)
adds_reading T Reads (Err fault) a b h e = some fault [] h e

-- the faults of a table, listed part by part, begin with its first fault, or there are none
pub listed_all : (table : Members) (a b c d e f : List SettingsFault)
    (upstreams peers : List Addr)
    → Adds (HasKeys table) (λ fault. (HasKeys table → ⊥) × (fault ≡ UnknownKey)) [] a
    → Adds ((listen : Addr) × ReadsListen (listen_in table) (Ok listen))
    (λ fault. ReadsListen (listen_in table) (Err fault)) a b
    → Adds (ReadsUpstreams (upstreams_in table) (Ok upstreams))
    (λ fault. ReadsUpstreams (upstreams_in table) (Err fault)) b c
    → Adds (ReadsPeers (peers_in table) (Ok peers))
    (λ fault. ReadsPeers (peers_in table) (Err fault)) c d
    → Adds ((sweep : ℕ) × ReadsSweep (sweep_in table) (Ok sweep))
    (λ fault. ReadsSweep (sweep_in table) (Err fault)) d e
    → Extends e f
    → (ReadsUpstreams (upstreams_in table) (Ok upstreams)
    → Adds (IsConfigData (record { upstreams = upstreams; peers = peers }))
    (FailsTogether upstreams peers) e f)
    → ListsFaults table f
listed_all table a b c d e f us ps (some x xs first q) hb hc hd he hf hg =
    first_stays table x xs a f (of_keys first.0 first.1) q
    (extends_on a b f (adds_others _ _ a b hb) (extends_on b c f (adds_others _ _ b c hc)
    (extends_on c d f (adds_others _ _ c d hd) (extends_on d e f (adds_others _ _ d e he) hf))))
listed_all table a b c d e f us ps (none keys qa) (some x xs first q) hc hd he hf hg =
    first_stays table x xs b f (of_listen keys first) (q ∙ ap (λ l. l ++ x ∷ xs) qa)
    (extends_on b c f (adds_others _ _ b c hc) (extends_on c d f (adds_others _ _ c d hd)
    (extends_on d e f (adds_others _ _ d e he) hf)))
listed_all table a b c d e f us ps (none keys qa) (none listen qb) (some x xs first q) hd he hf hg =
    first_stays table x xs c f (of_upstreams (keys, listen) first)
    (q ∙ ap (λ l. l ++ x ∷ xs) (qb ∙ qa))
    (extends_on c d f (adds_others _ _ c d hd) (extends_on d e f (adds_others _ _ d e he) hf))
listed_all table a b c d e f us ps (none keys qa) (none listen qb) (none up qc)
    (some x xs first q) he hf hg =
    first_stays table x xs d f (of_peers ((keys, listen), (us, up)) first)
    (q ∙ ap (λ l. l ++ x ∷ xs) (qc ∙ (qb ∙ qa))) (extends_on d e f (adds_others _ _ d e he) hf)
listed_all table a b c d e f us ps (none keys qa) (none listen qb) (none up qc) (none pe qd)
    (some x xs first q) hf hg =
    first_stays table x xs e f (of_sweep (((keys, listen), (us, up)), (ps, pe)) first)
    (q ∙ ap (λ l. l ++ x ∷ xs) (qd ∙ (qc ∙ (qb ∙ qa)))) hf
listed_all table a b c d e f us ps (none keys qa) (none listen qb) (none up qc) (none pe qd)
    (none sweep qe) hf hg = last (hg up)
  where
    empty : e ≡ []
    empty = qe ∙ (qd ∙ (qc ∙ (qb ∙ qa)))

    says : TableSays table listen.0 us ps sweep.0
    says = record {
      keys = keys;
      in_listen = listen.1;
      in_upstreams = up;
      in_peers = pe;
      in_sweep = sweep.1;
    }

    last : Adds (IsConfigData (record { upstreams = us; peers = ps })) (FailsTogether us ps) e f
        → ListsFaults table f
    last (none good q) =
        let s : Settings = record {
          listen = listen.0;
          config = record { upstreams = us; peers = ps };
          sweep = sweep.0;
        } in
        subst (λ (l : List SettingsFault). ListsFaults table l) (sym (q ∙ empty)) (s, says, good)
    last (some x xs first q) =
        subst (λ (l : List SettingsFault). ListsFaults table l)
        (sym (q ∙ ap (λ l. l ++ x ∷ xs) empty))
        (together listen.0 us ps sweep.0 says first.0 first.1 first.2)

-- the faults of upstreams and peers together, listed count by count and address by address
pub listed_together : (us ps : List Addr) (a b c d e : List SettingsFault)
    → Adds (1 ≤ length us) (λ fault. (length us ≡ 0) × (fault ≡ NoUpstream)) a b
    → Adds (length us ≤ MOST_UPSTREAMS)
    (λ fault. (MOST_UPSTREAMS < length us) × (fault ≡ TooManyUpstreams)) b c
    → Adds (length ps ≤ MOST_PEERS) (λ fault. (MOST_PEERS < length ps) × (fault ≡ TooManyPeers)) c d
    → Adds (AreApart us ps) (λ fault. (AreApart us ps → ⊥) × (fault ≡ AddressTwice)) d e
    → Adds (IsConfigData (record { upstreams = us; peers = ps })) (FailsTogether us ps) a e
listed_together us ps a b c d e ha hb hc hd =
    adds_on (HasPeers us ps) (AreApart us ps)
    (IsConfigData (record { upstreams = us; peers = ps })) (FailsTogether us ps)
    (λ fault. (AreApart us ps → ⊥) × (fault ≡ AddressTwice)) (FailsTogether us ps) a d e
    (adds_on (HasUpstreams us) (length ps ≤ MOST_PEERS) (HasPeers us ps) (FailsTogether us ps)
    (λ fault. (MOST_PEERS < length ps) × (fault ≡ TooManyPeers)) (FailsTogether us ps) a c d
    (adds_on (1 ≤ length us) (length us ≤ MOST_UPSTREAMS) (HasUpstreams us)
    (λ fault. (length us ≡ 0) × (fault ≡ NoUpstream))
    (λ fault. (MOST_UPSTREAMS < length us) × (fault ≡ TooManyUpstreams)) (FailsTogether us ps)
    a b c ha hb (λ fault q. (why.NoUpstream, no_upstream q.0 refl, q.1))
    (λ fault some q. (why.TooManyUpstreams, many_upstreams q.0 refl, q.1)) (λ p q. (p, q)))
    hc (λ fault q. q) (λ fault few q. (why.TooManyPeers, many_peers few q.0 refl, q.1))
    (λ p q. (p, q)))
    hd (λ fault q. q) (λ fault few q. (why.SameAddress, same_address few q.0 refl, q.1))
    (λ p q. record { few = p; apart = q })
