-- Entries of a configuration, read one after the other.
-- Serves `findings_in`, `read_addresses`, `settings_of`.
use Rattle.std.proofs.Common.{◌≡◌, ℕ, ◌+◌, ◌<◌, ◌≤◌, List, [], ◌∷◌, ◌++◌, drop, length, get_or, Option, Some, None, option_map, Ok, Err, Bor, nat_cmp, string_bytes, inr, sym, ap, ◌∙◌, subst, append_assoc}
use Rattle.std.specs.Prelude.{codes, IsSome}
use Rattle.std.specs.BTreeMap.{is_at}
use Rattle.std.specs.Cmp.Lexicographic.{slice_cmp}
use Rattle.std.specs.Map.{lookup}
use Rattle.std.proofs.lemmas.Bool.{false≢true}
use Rattle.std.proofs.lemmas.List.{append-nil, drop_all}
use Rattle.toml.specs.Data.{Data, Items, no_items, item, Members, as_str, get_member}
use Rattle.toml.specs.View.{view, items_view, members_view}
use Rattle.toml.specs.declared.value.Value.{Value}
use Rattle.toml.proofs.Views.{Entry, items_view-drop, table_get}
use Rattle.fleet_pending.specs.declared.addr.Addr.{Addr}
use Rattle.fleet_site.specs.ConfigData.{ConfigData}
use Rattle.fleet_program.specs.Configuration.{Reading, ReadsText, ReadsAddress, ReadsTexts, ReadsListen, ReadsUpstreams, ReadsPeers, ReadsSweep, TableSays, SpellAddresses, AreTexts, listen_in, upstreams_in, peers_in, sweep_in}
use Rattle.fleet_program.specs.declared.settings.SettingsFault.{SettingsFault}
use Rattle.fleet_program.specs.declared.settings.SettingsFault.TheVariants.{BadAddress}

-- some addresses were read, and the rest of the texts is to be read
pub record Remains (all rest : Items) (done : List Addr) : Type 0 where
  pub keeps : (more : List Addr) → SpellAddresses rest more → SpellAddresses all (done ++ more)
  pub needs : (addrs : List Addr) → SpellAddresses all addrs
      → (more : List Addr) × SpellAddresses rest more
  pub texts : AreTexts rest

one_read : (all : Items) (value : Data) (rest : Items) (done : List Addr) (addr : Addr)
    → Remains all (item value rest) done → ReadsAddress value (Ok addr)
    → Remains all rest (done ++ addr ∷ [])
one_read all value rest done addr r h = record {
  keeps = λ more spell. subst (λ (addrs : List Addr). SpellAddresses all addrs)
      (sym (append_assoc done (addr ∷ []) more)) (r.keeps (addr ∷ more) (h, spell));
  needs = λ addrs spell. rest_needed value rest (r.needs addrs spell);
  texts = r.texts.1;
}
  where
    rest_needed : (value : Data) (rest : Items)
        → (more : List Addr) × SpellAddresses (item value rest) more
        → (more : List Addr) × SpellAddresses rest more
    rest_needed value rest ([], h) = absurd h
    rest_needed value rest (addr ∷ more, h) = (more, h.1)

-- what remains begins with the text at hand
at_hand : (all : Items) (vs : List Value) (i : ℕ) (v : Value) (done : List Addr) → i < length vs
    → v ≡ get_or vs i v → Remains all (items_view (drop i vs)) done
    → Remains all (item (view v) (items_view (drop (i + 1) vs))) done
at_hand all vs i v done within e r =
    let parts : items_view (drop i vs) ≡ item (view v) (items_view (drop (i + 1) vs)) =
    items_view-drop vs i v within ∙ ap (λ x. item (view x) (items_view (drop (i + 1) vs)))
    (sym e) in
    subst (λ (rest : Items). Remains all rest done) parts r

pub read_on : (all : Items) (vs : List Value) (i : ℕ) (v : Value) (done : List Addr) (addr : Addr)
    → i < length vs → v ≡ get_or vs i v → Remains all (items_view (drop i vs)) done
    → ReadsAddress (view v) (Ok addr)
    → Remains all (items_view (drop (i + 1) vs)) (done ++ addr ∷ [])
read_on all vs i v done addr within e r h =
    one_read all (view v) (items_view (drop (i + 1) vs)) done addr
    (at_hand all vs i v done within e r) h

-- a fault of one text is one of them all
none_left : (value : Data) (rest : Items) → ((addr : Addr) → ReadsAddress value (Ok addr) → ⊥)
    → (more : List Addr) × SpellAddresses (item value rest) more → ⊥
none_left value rest none ([], h) = absurd h
none_left value rest none (addr ∷ more, h) = none addr h.0

bad_text : (text : Option (List ℕ)) (fault : SettingsFault) → IsSome text
    → ReadsText text (Err fault)
    → (fault ≡ BadAddress) × ((addr : Addr) → ReadsText text (Ok addr) → ⊥)
bad_text None fault some h = absurd (false≢true some)
bad_text (Some text) fault some h = h

one_bad : (all : Items) (value : Data) (rest : Items) (done : List Addr) (fault : SettingsFault)
    → Remains all (item value rest) done → ReadsAddress value (Err fault)
    → (fault ≡ BadAddress) × ((addrs : List Addr) → SpellAddresses all addrs → ⊥)
one_bad all value rest done fault r h =
    let bad = bad_text (as_str value) fault r.texts.0 h in
    (bad.0, λ addrs spell. none_left value rest bad.1 (r.needs addrs spell))

pub read_no_further : (all : Items) (vs : List Value) (i : ℕ) (v : Value) (done : List Addr)
    (fault : SettingsFault) → i < length vs → v ≡ get_or vs i v
    → Remains all (items_view (drop i vs)) done → ReadsAddress (view v) (Err fault)
    → ReadsTexts all (Err fault)
read_no_further all vs i v done fault within e r h =
    inr (one_bad all (view v) (items_view (drop (i + 1) vs)) done fault
    (at_hand all vs i v done within e r) h)

-- and none is left
pub all_read : (all : Items) (vs : List Value) (i : ℕ) (done : List Addr) → length vs ≤ i
    → Remains all (items_view (drop i vs)) done → SpellAddresses all done
all_read all vs i done past r =
    let r' : Remains all no_items done =
    subst (λ (rest : List Value). Remains all (items_view rest) done) (drop_all i vs past) r in
    subst (λ (addrs : List Addr). SpellAddresses all addrs) (append-nil done) (r'.keeps [] tt)

-- a table finds the value of a key, and nothing else
abbrev pub Finds : List ℕ → List Entry → Option (Bor Value) → Type 0
Finds key es r = option_map (λ x. x.now) r
    ≡ lookup (is_at (λ x. slice_cmp nat_cmp key (string_bytes x))) es

-- so what is read of the value that was found is read of the table
at_key : (P : Option Data → Type 0) (key : List ℕ) (es : List Entry) (r : Option (Bor Value))
    → Finds key es r → P (option_map (λ x. view x.now) r) → P (get_member key (members_view es))
at_key P key es r found h = subst P (table_get r key es found) h

pub listen_at : (es : List Entry) (reading : Reading Addr) (r : Option (Bor Value))
    → Finds (codes "listen") es r → ReadsListen (option_map (λ x. view x.now) r) reading
    → ReadsListen (listen_in (members_view es)) reading
listen_at es reading r found h = at_key (λ v. ReadsListen v reading) (codes "listen") es r found h

pub upstreams_at : (es : List Entry) (reading : Reading (List Addr)) (r : Option (Bor Value))
    → Finds (codes "upstreams") es r → ReadsUpstreams (option_map (λ x. view x.now) r) reading
    → ReadsUpstreams (upstreams_in (members_view es)) reading
upstreams_at es reading r found h =
    at_key (λ v. ReadsUpstreams v reading) (codes "upstreams") es r found h

pub peers_at : (es : List Entry) (reading : Reading (List Addr)) (r : Option (Bor Value))
    → Finds (codes "peers") es r → ReadsPeers (option_map (λ x. view x.now) r) reading
    → ReadsPeers (peers_in (members_view es)) reading
peers_at es reading r found h = at_key (λ v. ReadsPeers v reading) (codes "peers") es r found h

pub sweep_at : (es : List Entry) (reading : Reading ℕ) (r : Option (Bor Value))
    → Finds (codes "sweep") es r → ReadsSweep (option_map (λ x. view x.now) r) reading
    → ReadsSweep (sweep_in (members_view es)) reading
sweep_at es reading r found h = at_key (λ v. ReadsSweep v reading) (codes "sweep") es r found h

-- the addresses of what is said are those of the setting that was made of them
pub says_of : (table : Members) (listen : Addr) (upstreams peers : List Addr) (sweep : ℕ)
    (s : ConfigData) → s ≡ record { upstreams = upstreams; peers = peers }
    → TableSays table listen upstreams peers sweep
    → TableSays table listen s.upstreams s.peers sweep
says_of table listen upstreams peers sweep s e h =
    subst (λ (x : ConfigData). TableSays table listen x.upstreams x.peers sweep) (sym e) h
