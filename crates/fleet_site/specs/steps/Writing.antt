-- What writing an answer adds to an outline.
-- Serves `Site::datagram`, `Site::datagram_into`, `Site::ask`.
use Rattle.std.specs.Prelude.{◌≡◌, ℕ, List, [], ◌∷◌, ◌++◌, map}
use Rattle.fleet_name.specs.Types.{OctetList}
use Rattle.fleet_wire.specs.Outline.{OutlineData}
use Rattle.fleet_wire.specs.Record.{RecordData}
use Rattle.fleet_wire.specs.declared.rcode.TheConstants.{NO_ERROR, NAME_ERROR}
use Rattle.fleet_observe.specs.Body.{positive_body}
use Rattle.fleet_observe.specs.Observation.{IsNegativeKind}
use Rattle.fleet_cache.specs.Answer.{ShownData, AnswerData, Missed, Found, NoData, NxDomain}
use Rattle.fleet_site.specs.question.AnswerRecords.{row, AreChainRows, IsSoaRow}

-- the RCODE of an answer: 3 for a name error, else 0 (RFC 1035 4.1.1)
abbrev pub answer_rcode : AnswerData → ℕ
answer_rcode Missed = NO_ERROR
answer_rcode (Found chain set) = NO_ERROR
answer_rcode (NoData chain soa) = NO_ERROR
answer_rcode (NxDomain chain soa) = NAME_ERROR

-- a part that denies
abbrev pub IsNegativePart : ShownData → Type 0
IsNegativePart p = IsNegativeKind p.observation.kind

-- one record for each RDATA, at the end of the answer section
abbrev pub with_rows : ShownData → List OctetList → OutlineData → OutlineData
with_rows p rdatas o = record o { answer = o.answer ++ map (row p) rdatas }

-- the records of a part are added at the end of the answer section
abbrev pub AddsRows : ShownData → OutlineData → OutlineData → Type 0
AddsRows p old new =
    (rdatas : List OctetList) × (p.observation.body ≡ positive_body rdatas)
    × (new ≡ with_rows p rdatas old)

-- the records of links are added at the end of the answer section
abbrev pub AddsChainRows : List ShownData → OutlineData → OutlineData → Type 0
AddsChainRows ps old new =
    (rows : List RecordData) × AreChainRows ps rows
    × (new ≡ record old { answer = old.answer ++ rows })

-- an SOA record is added at the end of the authority section
abbrev pub AddsSoaRow : ShownData → OutlineData → OutlineData → Type 0
AddsSoaRow p old new =
    (r : RecordData) × IsSoaRow p r × (new ≡ record old { authority = old.authority ++ r ∷ [] })

-- links are added, and then the records that they lead to
abbrev pub AddsRecords : List ShownData → ShownData → OutlineData → OutlineData → Type 0
AddsRecords chain set old new =
    (mid : OutlineData) × AddsChainRows chain old mid × AddsRows set mid new

-- links are added, and then an SOA
abbrev pub AddsDenial : List ShownData → ShownData → OutlineData → OutlineData → Type 0
AddsDenial chain soa old new =
    (mid : OutlineData) × AddsChainRows chain old mid × AddsSoaRow soa mid new

-- all that an answer says is added to a reply: links, then records or an SOA
abbrev pub AddsAnswer : AnswerData → OutlineData → OutlineData → Type 0
AddsAnswer Missed old new = new ≡ old
AddsAnswer (Found chain set) old new = AddsRecords chain set old new
AddsAnswer (NoData chain soa) old new = AddsDenial chain soa old new
AddsAnswer (NxDomain chain soa) old new = AddsDenial chain soa old new
