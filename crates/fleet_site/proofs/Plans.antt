-- What the first due entry makes a site do.
-- Serves `entry_query`, `and_more`, `serve_due`.
use Rattle.std.proofs.Common.{◌≡◌, ◌≢◌, ℕ, ◌+◌, inl, inr, List, ◌++◌, Option, Some, Bool, true, false, map, refl, sym, ◌∙◌, ap, subst, arith}
use Rattle.std.specs.Prelude.{IsTrue}
use mathlib.Core.Bool.{false≢true}
use Rattle.fleet_name.specs.Name.{wire}
use Rattle.fleet_wire.specs.Query.{query_head, query_octets, lowercase_question}
use Rattle.fleet_wire.specs.Outline.{question_octets}
use Rattle.fleet_wire.specs.Question.{QuestionData}
use Rattle.fleet_wire.specs.declared.class.TheConstants.{IN}
use Rattle.fleet_pending.specs.Asking.{Settles, Advances}
use Rattle.fleet_pending.specs.Due.{IsFirstDue, NoneDue, Dues, due_at}
use Rattle.fleet_pending.specs.DueCount.{CountsDue}
use Rattle.fleet_pending.specs.PendingData.{EntryData, PendingData, IsPendingData, AsksFor}
use Rattle.fleet_pending.specs.Settled.{SettlesItsEntry}
use Rattle.fleet_pending.specs.declared.answer.Due.{Due}
use Rattle.fleet_pending.specs.declared.answer.Due.TheVariants.{Retry, Failed}
use Rattle.fleet_pending.specs.declared.addr.Addr.{Addr}
use Rattle.fleet_site.specs.OutcomeData.{OutcomeData, nothing, packet_to}
use Rattle.fleet_site.specs.steps.Plan.{IsRetry, IsFailure, SaysMore}
use Rattle.fleet_site.specs.SiteModel.{says_only}
use Rattle.fleet_site.specs.Tick.{question_of, failure_to, Ticked, LeavesFewer}
use Rattle.fleet_site.proofs.Tables.{settles_entry}

-- a question for an entry's name and type asks, in lower case, what the entry asks
lowered_same : (e : EntryData) (q : QuestionData) → AsksFor q e → q.class ≡ IN
    → lowercase_question q ≡ question_of e
lowered_same e q is class =
    let name : q.name ≡ e.name = sym is.0 in
    let rtype : q.rtype ≡ e.rtype = sym is.1 in
    ap (λ n. record { spelled = wire n; name = n; rtype = q.rtype; class = q.class }) name
    ∙ ap (λ t. record (question_of e) { class = q.class; rtype = t }) rtype
    ∙ ap (λ c. record (question_of e) { class = c }) class

-- and the query does not have the spelling
pub asks_same : (id : ℕ) (q : QuestionData) (e : EntryData) → AsksFor q e → q.class ≡ IN
    → query_octets id q ≡ query_octets id (question_of e)
asks_same id q e is class = ap (λ x. query_head id ++ question_octets x) (lowered_same e q is class)

some_due : (o : PendingData) (t : ℕ) (e : EntryData) → IsFirstDue o.entries t e
    → ¬ NoneDue o.entries t
some_due o t e first none = none first.place e first.there first.due

pub due_some : {A : Type 0} (o : PendingData) (t : ℕ) (d : Due A) → Dues o t (Some d)
    → ¬ NoneDue o.entries t
due_some o t (Retry u id e) k = some_due o t _ k.0
due_some o t (Failed id e) k = some_due o t _ k.0

pub ticks_retry : (ups : List Addr) (o n : PendingData) (t id : ℕ) (b : Bool) (e f : OutcomeData)
    → IsRetry ups o t id e → Advances o id t b n → SaysMore n t e f → Ticked ups o t (says_only f n)
ticks_retry ups o n t id false e f r moves m =
    absurd (moves.0 r.due.place r.entry r.due.there (sym r.id_is, r.further))
ticks_retry ups o n t id true e f r moves m =
    let says : f ≡ record nothing {
      packets = packet_to r.there
          (query_octets r.entry.id (question_of r.entry));
      more = f.more;
    } = m.says
    ∙ ap {A = OutcomeData} (λ x. record x { more = f.more }) r.says
    ∙ ap {A = ℕ} (λ k. record nothing {
      packets = packet_to r.there
          (query_octets k (question_of r.entry));
      more = f.more;
    }) r.id_is in
    let P : ℕ → Type 0 = λ k. Advances o k t true n in
    inr (
      some_due o t r.entry r.due,
      record {
        entry = r.entry;
        due = r.due;
        served = inl (
          r.further,
          record {
            there = r.there;
            next = r.next;
            says = says;
            moves = subst P r.id_is moves;
          },
        );
        more = m.more;
        brings = refl;
      },
    )

pub ticks_failure : SettlesItsEntry → (ups : List Addr) (o n : PendingData) (t id : ℕ)
    (back : Option EntryData) (e f : OutcomeData) → IsPendingData o → IsFailure o t id e
    → Settles o id back n → SaysMore n t e f → Ticked ups o t (says_only f n)
ticks_failure gives ups o n t id back e f lawful r settles m =
    let says : f ≡ record nothing { packets = map failure_to r.entry.waiters; more = f.more } =
    m.says ∙ ap {A = OutcomeData} (λ x. record x { more = f.more }) r.says in
    inr (
      some_due o t r.entry r.due,
      record {
        entry = r.entry;
        due = r.due;
        served = inr (
          (λ l. omega (arith, l, r.last)),
          record {
            says = says;
            settles = settles_entry gives o n r.due.place id r.entry back lawful
                r.due.there r.id_is settles;
          },
        );
        more = m.more;
        brings = refl;
      },
    )

pub says_more : (o : PendingData) (t : ℕ) (e f : OutcomeData) → f ≡ record e { more = true }
    → ¬ NoneDue o.entries t → SaysMore o t e f
says_more o t e f s n =
    let more : f.more ≡ true = ap (λ x. x.more) s in
    record {
      says = s ∙ ap {A = Bool} (λ b. record e { more = b }) (sym more);
      more = ((λ _. n), (λ _. more));
    }

pub says_none : (o : PendingData) (t : ℕ) (e f : OutcomeData) → f ≡ record e { more = false }
    → NoneDue o.entries t → SaysMore o t e f
says_none o t e f s none =
    let more : f.more ≡ false = ap (λ x. x.more) s in
    record {
      says = s ∙ ap {A = Bool} (λ b. record e { more = b }) (sym more);
      more = ((λ i. absurd (false≢true (sym more ∙ i))), (λ n. absurd (n none)));
    }

-- one fewer is due than before, and where more is said, at least one
leaves_fewer : CountsDue → (o n : PendingData) (t : ℕ) (e f : OutcomeData)
    → due_at n t + 1 ≡ due_at o t → SaysMore n t e f → IsTrue f.more → LeavesFewer o n t
leaves_fewer counts o n t e f one m more =
    let due : due_at n t ≢ 0 = λ z. m.more.0 more ((counts.none n t).1 z) in
    record { some = omega (arith, due); fewer = omega (arith, one) }

pub retried_fewer : CountsDue → (ups : List Addr) (o n : PendingData) (t id : ℕ) (b : Bool)
    (e f : OutcomeData) → IsPendingData o → IsRetry ups o t id e → Advances o id t b n
    → SaysMore n t e f → IsTrue f.more → LeavesFewer o n t
retried_fewer counts ups o n t id b e f lawful r moves m more =
    leaves_fewer counts o n t e f (counts.advancing o n t id r.entry b lawful r.due (sym r.id_is)
    r.further moves).1 m more

pub failed_fewer : CountsDue → (o n : PendingData) (t id : ℕ) (back : Option EntryData)
    (e f : OutcomeData) → IsPendingData o → IsFailure o t id e → Settles o id back n
    → SaysMore n t e f → IsTrue f.more → LeavesFewer o n t
failed_fewer counts o n t id back e f lawful r settles m more =
    leaves_fewer counts o n t e f (counts.settling o n t id r.entry back lawful r.due (sym r.id_is)
    settles) m more
