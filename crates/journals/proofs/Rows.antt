-- Rows of journals with their first faults: tests of the definitions.
use Rattle.std.proofs.Common.{◌≡◌, refl, ℕ, None, Err, Result, List, [], ◌∷◌, codes}
use Rattle.journals.specs.Journal.{Journal, Fault, journal_of_lines}
use Rattle.journals.specs.Header.{heading_of}
use Rattle.journals.specs.Lines.{line_of}
use Rattle.journals.specs.Words.{word_of}
use Rattle.journals.specs.Faults.{fault_of_line}
use Rattle.mpicall.specs.Number.{number_up_to, signed_of, is_canonical}
use Rattle.journals.specs.declared.fault.JournalFaultKind.{JournalFaultKind}
use Rattle.journals.specs.declared.fault.JournalFaultKind.TheVariants.{UnknownWord, FieldCount, FieldForm, AfterEnd, OutOfPlace, Request, Comm, Group}

-- the journal of rank 0 of one, two or three ranks
abbrev alone : List (List ℕ) → Result Journal Fault
alone lines = journal_of_lines 0 None (codes "journal 2 0 1 x i y" ∷ lines)

abbrev of_two : List (List ℕ) → Result Journal Fault
of_two lines = journal_of_lines 0 None (codes "journal 2 0 2 x i y" ∷ lines)

abbrev of_three : List (List ℕ) → Result Journal Fault
of_three lines = journal_of_lines 0 None (codes "journal 2 0 3 x i y" ∷ lines)

abbrev fault : ℕ → JournalFaultKind → Result Journal Fault
fault line kind = Err (record { line = line; kind = kind })

row_0 : alone
    (codes " barrier 0" ∷ [])
    ≡ fault 2 UnknownWord
unfolding heading_of line_of word_of fault_of_line number_up_to signed_of is_canonical
row_0 = refl

row_1 : alone
    (codes "comm_free_all 2" ∷ [])
    ≡ fault 2 UnknownWord
unfolding heading_of line_of word_of fault_of_line number_up_to signed_of is_canonical
row_1 = refl

row_2 : alone
    (codes "" ∷ [])
    ≡ fault 2 UnknownWord
unfolding heading_of line_of word_of fault_of_line number_up_to signed_of is_canonical
row_2 = refl

row_3 : alone
    (codes "barrier 0 0" ∷ [])
    ≡ fault 2 FieldCount
unfolding heading_of line_of word_of fault_of_line number_up_to signed_of is_canonical
row_3 = refl

row_4 : alone
    (codes "barrier 0 @1 @2" ∷ [])
    ≡ fault 2 FieldCount
unfolding heading_of line_of word_of fault_of_line number_up_to signed_of is_canonical
row_4 = refl

row_5 : alone
    (codes "recv 0 any 0" ∷ codes "=got 0 0 @1" ∷ [])
    ≡ fault 3 FieldCount
unfolding heading_of line_of word_of fault_of_line number_up_to signed_of is_canonical
row_5 = refl

row_6 : alone
    (codes "ssend 0 null 0 4" ∷ [])
    ≡ fault 2 FieldCount
unfolding heading_of line_of word_of fault_of_line number_up_to signed_of is_canonical
row_6 = refl

row_7 : alone
    (codes "test" ∷ [])
    ≡ fault 2 FieldCount
unfolding heading_of line_of word_of fault_of_line number_up_to signed_of is_canonical
row_7 = refl

row_8 : alone
    (codes "waitany" ∷ [])
    ≡ fault 2 FieldCount
unfolding heading_of line_of word_of fault_of_line number_up_to signed_of is_canonical
row_8 = refl

row_9 : alone
    (codes "send  0 0 0" ∷ [])
    ≡ fault 2 FieldForm
unfolding heading_of line_of word_of fault_of_line number_up_to signed_of is_canonical
row_9 = refl

row_10 : alone
    (codes "barrier 00" ∷ [])
    ≡ fault 2 FieldForm
unfolding heading_of line_of word_of fault_of_line number_up_to signed_of is_canonical
row_10 = refl

row_11 : alone
    (codes "send 0 -0 0" ∷ [])
    ≡ fault 2 FieldForm
unfolding heading_of line_of word_of fault_of_line number_up_to signed_of is_canonical
row_11 = refl

row_12 : alone
    (codes "init @0" ∷ [])
    ≡ fault 2 FieldForm
unfolding heading_of line_of word_of fault_of_line number_up_to signed_of is_canonical
row_12 = refl

row_13 : alone
    (codes "send 0 any 0" ∷ [])
    ≡ fault 2 FieldForm
unfolding heading_of line_of word_of fault_of_line number_up_to signed_of is_canonical
row_13 = refl

row_14 : alone
    (codes "sendrecv 0 null any null 0" ∷ [])
    ≡ fault 2 FieldForm
unfolding heading_of line_of word_of fault_of_line number_up_to signed_of is_canonical
row_14 = refl

row_15 : alone
    (codes "send 0 2147483648 0" ∷ [])
    ≡ fault 2 FieldForm
unfolding heading_of line_of word_of fault_of_line number_up_to signed_of is_canonical
row_15 = refl

row_16 : alone
    (codes "bcast 0 null" ∷ [])
    ≡ fault 2 FieldForm
unfolding heading_of line_of word_of fault_of_line number_up_to signed_of is_canonical
row_16 = refl

row_17 : alone
    (codes "comm_split 0 null 0" ∷ [])
    ≡ fault 2 FieldForm
unfolding heading_of line_of word_of fault_of_line number_up_to signed_of is_canonical
row_17 = refl

row_18 : of_two
    (codes "comm_create_group 0 2" ∷ [])
    ≡ fault 2 FieldForm
unfolding heading_of line_of word_of fault_of_line number_up_to signed_of is_canonical
row_18 = refl

row_19 : alone
    (codes "isend 1 0 null 0 2147483648" ∷ [])
    ≡ fault 2 FieldForm
unfolding heading_of line_of word_of fault_of_line number_up_to signed_of is_canonical
row_19 = refl

row_20 : alone
    (codes "isend 0 0 null 0" ∷ [])
    ≡ fault 2 FieldForm
unfolding heading_of line_of word_of fault_of_line number_up_to signed_of is_canonical
row_20 = refl

row_21 : alone
    (codes "iprobe 0 any 0" ∷ [])
    ≡ fault 2 FieldForm
unfolding heading_of line_of word_of fault_of_line number_up_to signed_of is_canonical
row_21 = refl

row_22 : alone
    (codes "improbe 1 0 0 any" ∷ [])
    ≡ fault 2 FieldForm
unfolding heading_of line_of word_of fault_of_line number_up_to signed_of is_canonical
row_22 = refl

row_23 : alone
    (codes "iprobe 0 0 any" ∷ [])
    ≡ fault 2 FieldForm
unfolding heading_of line_of word_of fault_of_line number_up_to signed_of is_canonical
row_23 = refl

row_24 : alone
    (codes "recv 0 any 0" ∷ codes "=got any 0" ∷ [])
    ≡ fault 3 FieldForm
unfolding heading_of line_of word_of fault_of_line number_up_to signed_of is_canonical
row_24 = refl

row_25 : alone
    (codes "irecv 1 0 any 0" ∷ codes "=done 1 0 any" ∷ [])
    ≡ fault 3 FieldForm
unfolding heading_of line_of word_of fault_of_line number_up_to signed_of is_canonical
row_25 = refl

row_26 : alone
    (codes "sendrecv 0 any 0 0 0" ∷ [])
    ≡ fault 2 FieldForm
unfolding heading_of line_of word_of fault_of_line number_up_to signed_of is_canonical
row_26 = refl

row_27 : alone
    (codes "isend 1 0 0 any" ∷ [])
    ≡ fault 2 FieldForm
unfolding heading_of line_of word_of fault_of_line number_up_to signed_of is_canonical
row_27 = refl

row_28 : alone
    (codes "finalize" ∷ codes "barrier x" ∷ [])
    ≡ fault 3 FieldForm
unfolding heading_of line_of word_of fault_of_line number_up_to signed_of is_canonical
row_28 = refl

row_29 : alone
    (codes "finalize" ∷ codes "barrier 0" ∷ [])
    ≡ fault 3 AfterEnd
unfolding heading_of line_of word_of fault_of_line number_up_to signed_of is_canonical
row_29 = refl

row_30 : alone
    (codes "exit" ∷ codes "=gone 1" ∷ [])
    ≡ fault 3 AfterEnd
unfolding heading_of line_of word_of fault_of_line number_up_to signed_of is_canonical
row_30 = refl

row_31 : alone
    (codes "finalize" ∷ codes "=failed" ∷ [])
    ≡ fault 3 AfterEnd
unfolding heading_of line_of word_of fault_of_line number_up_to signed_of is_canonical
row_31 = refl

row_32 : alone
    (codes "exit" ∷ codes "=failed" ∷ [])
    ≡ fault 3 AfterEnd
unfolding heading_of line_of word_of fault_of_line number_up_to signed_of is_canonical
row_32 = refl

row_33 : alone
    (codes "=got 0 0" ∷ [])
    ≡ fault 2 OutOfPlace
unfolding heading_of line_of word_of fault_of_line number_up_to signed_of is_canonical
row_33 = refl

row_34 : alone
    (codes "send 0 null 0" ∷ codes "=got 0 0" ∷ [])
    ≡ fault 3 OutOfPlace
unfolding heading_of line_of word_of fault_of_line number_up_to signed_of is_canonical
row_34 = refl

row_35 : alone
    (codes "recv 0 any 0" ∷ codes "=got 0 0" ∷ codes "=got 0 0" ∷ [])
    ≡ fault 4 OutOfPlace
unfolding heading_of line_of word_of fault_of_line number_up_to signed_of is_canonical
row_35 = refl

row_36 : alone
    (codes "irecv 1 0 null 0" ∷ codes "irecv 2 0 null 0" ∷ codes "waitany 1 2" ∷ codes "=chose 1 2" ∷ [])
    ≡ fault 5 OutOfPlace
unfolding heading_of line_of word_of fault_of_line number_up_to signed_of is_canonical
row_36 = refl

row_37 : alone
    (codes "comm_dup 0" ∷ codes "=comm 2 0" ∷ codes "=comm 3 0" ∷ [])
    ≡ fault 4 OutOfPlace
unfolding heading_of line_of word_of fault_of_line number_up_to signed_of is_canonical
row_37 = refl

row_38 : alone
    (codes "comm_idup 1 0" ∷ codes "=comm 2 0" ∷ [])
    ≡ fault 3 OutOfPlace
unfolding heading_of line_of word_of fault_of_line number_up_to signed_of is_canonical
row_38 = refl

row_39 : alone
    (codes "irecv 1 0 0 0" ∷ codes "=done 1 0 0" ∷ [])
    ≡ fault 3 OutOfPlace
unfolding heading_of line_of word_of fault_of_line number_up_to signed_of is_canonical
row_39 = refl

row_40 : alone
    (codes "irecv 1 0 any 0" ∷ codes "=done 1 0 0" ∷ codes "=done 1 0 0" ∷ [])
    ≡ fault 4 OutOfPlace
unfolding heading_of line_of word_of fault_of_line number_up_to signed_of is_canonical
row_40 = refl

row_41 : alone
    (codes "isend 1 0 null 0" ∷ codes "=gone 1" ∷ [])
    ≡ fault 3 OutOfPlace
unfolding heading_of line_of word_of fault_of_line number_up_to signed_of is_canonical
row_41 = refl

row_42 : of_two
    (codes "=comm 0 1 1" ∷ [])
    ≡ fault 2 OutOfPlace
unfolding heading_of line_of word_of fault_of_line number_up_to signed_of is_canonical
row_42 = refl

row_43 : alone
    (codes "comm_split 0 undefined 0" ∷ codes "=comm 2 0" ∷ [])
    ≡ fault 3 OutOfPlace
unfolding heading_of line_of word_of fault_of_line number_up_to signed_of is_canonical
row_43 = refl

row_44 : alone
    (codes "comm_create_group 0" ∷ codes "=none" ∷ [])
    ≡ fault 3 OutOfPlace
unfolding heading_of line_of word_of fault_of_line number_up_to signed_of is_canonical
row_44 = refl

row_45 : alone
    (codes "comm_idup 1 0" ∷ codes "=none" ∷ [])
    ≡ fault 3 OutOfPlace
unfolding heading_of line_of word_of fault_of_line number_up_to signed_of is_canonical
row_45 = refl

row_46 : alone
    (codes "comm_dup 0" ∷ codes "=none" ∷ codes "=comm 2 0" ∷ [])
    ≡ fault 4 OutOfPlace
unfolding heading_of line_of word_of fault_of_line number_up_to signed_of is_canonical
row_46 = refl

row_47 : alone
    (codes "comm_dup 0" ∷ codes "=comm 2 0" ∷ codes "=none" ∷ [])
    ≡ fault 4 OutOfPlace
unfolding heading_of line_of word_of fault_of_line number_up_to signed_of is_canonical
row_47 = refl

row_48 : alone
    (codes "irecv 1 0 any 0" ∷ codes "cancel 1" ∷ codes "=done 1 0 0" ∷ codes "=gone 1" ∷ [])
    ≡ fault 5 OutOfPlace
unfolding heading_of line_of word_of fault_of_line number_up_to signed_of is_canonical
row_48 = refl

row_49 : alone
    (codes "isend 1 0 0 0" ∷ codes "cancel 1" ∷ codes "=kept 1" ∷ codes "=kept 1" ∷ [])
    ≡ fault 5 OutOfPlace
unfolding heading_of line_of word_of fault_of_line number_up_to signed_of is_canonical
row_49 = refl

row_50 : alone
    (codes "isendrecv 1 2 0 0 0 any 0" ∷ codes "=done 1 0 0" ∷ [])
    ≡ fault 3 OutOfPlace
unfolding heading_of line_of word_of fault_of_line number_up_to signed_of is_canonical
row_50 = refl

row_51 : alone
    (codes "comm_idup 1 0" ∷ codes "wait 1" ∷ codes "barrier 0" ∷ codes "=idup 2 1 0" ∷ [])
    ≡ fault 5 OutOfPlace
unfolding heading_of line_of word_of fault_of_line number_up_to signed_of is_canonical
row_51 = refl

row_52 : alone
    (codes "iprobe 0 0 0" ∷ codes "=got 0 0" ∷ [])
    ≡ fault 3 OutOfPlace
unfolding heading_of line_of word_of fault_of_line number_up_to signed_of is_canonical
row_52 = refl

row_53 : alone
    (codes "irecv 1 0 any 0" ∷ codes "=got 0 0" ∷ [])
    ≡ fault 3 OutOfPlace
unfolding heading_of line_of word_of fault_of_line number_up_to signed_of is_canonical
row_53 = refl

row_54 : alone
    (codes "=failed" ∷ [])
    ≡ fault 2 OutOfPlace
unfolding heading_of line_of word_of fault_of_line number_up_to signed_of is_canonical
row_54 = refl

row_55 : alone
    (codes "abort" ∷ codes "=failed" ∷ [])
    ≡ fault 3 OutOfPlace
unfolding heading_of line_of word_of fault_of_line number_up_to signed_of is_canonical
row_55 = refl

row_56 : alone
    (codes "full" ∷ codes "=failed" ∷ [])
    ≡ fault 3 OutOfPlace
unfolding heading_of line_of word_of fault_of_line number_up_to signed_of is_canonical
row_56 = refl

row_57 : alone
    (codes "stopped w" ∷ codes "=failed" ∷ [])
    ≡ fault 3 OutOfPlace
unfolding heading_of line_of word_of fault_of_line number_up_to signed_of is_canonical
row_57 = refl

row_58 : alone
    (codes "init" ∷ codes "=failed" ∷ codes "=failed" ∷ [])
    ≡ fault 4 OutOfPlace
unfolding heading_of line_of word_of fault_of_line number_up_to signed_of is_canonical
row_58 = refl

row_59 : alone
    (codes "wait 3" ∷ codes "finalize" ∷ [])
    ≡ fault 2 Request
unfolding heading_of line_of word_of fault_of_line number_up_to signed_of is_canonical
row_59 = refl

row_60 : alone
    (codes "irecv 1 0 null 0" ∷ codes "=done 2 0 0" ∷ [])
    ≡ fault 3 Request
unfolding heading_of line_of word_of fault_of_line number_up_to signed_of is_canonical
row_60 = refl

row_61 : alone
    (codes "irecv 1 0 null 0" ∷ codes "wait 1" ∷ codes "irecv 1 0 null 0" ∷ [])
    ≡ fault 4 Request
unfolding heading_of line_of word_of fault_of_line number_up_to signed_of is_canonical
row_61 = refl

row_62 : alone
    (codes "irecv 1 0 null 0" ∷ codes "test 1" ∷ codes "cancel 1" ∷ [])
    ≡ fault 4 Request
unfolding heading_of line_of word_of fault_of_line number_up_to signed_of is_canonical
row_62 = refl

row_63 : alone
    (codes "irecv 1 0 null 0" ∷ codes "wait 1 1" ∷ [])
    ≡ fault 3 Request
unfolding heading_of line_of word_of fault_of_line number_up_to signed_of is_canonical
row_63 = refl

row_64 : alone
    (codes "isendrecv 1 1 0 null 0 null 0" ∷ [])
    ≡ fault 2 Request
unfolding heading_of line_of word_of fault_of_line number_up_to signed_of is_canonical
row_64 = refl

row_65 : alone
    (codes "mprobe 1 0 null 0" ∷ codes "wait 1" ∷ [])
    ≡ fault 3 Request
unfolding heading_of line_of word_of fault_of_line number_up_to signed_of is_canonical
row_65 = refl

row_66 : alone
    (codes "irecv 1 0 null 0" ∷ codes "mrecv 1" ∷ [])
    ≡ fault 3 Request
unfolding heading_of line_of word_of fault_of_line number_up_to signed_of is_canonical
row_66 = refl

row_67 : alone
    (codes "mprobe 1 0 null 0" ∷ codes "mrecv 1" ∷ codes "imrecv 2 1" ∷ [])
    ≡ fault 4 Request
unfolding heading_of line_of word_of fault_of_line number_up_to signed_of is_canonical
row_67 = refl

row_68 : of_two
    (codes "wait 5" ∷ codes "=comm 0 7 7" ∷ [])
    ≡ fault 2 Request
unfolding heading_of line_of word_of fault_of_line number_up_to signed_of is_canonical
row_68 = refl

row_69 : alone
    (codes "irecv 1 0 null 0" ∷ codes "isend 1 9 null 0" ∷ [])
    ≡ fault 3 Request
unfolding heading_of line_of word_of fault_of_line number_up_to signed_of is_canonical
row_69 = refl

row_70 : alone
    (codes "irecv 1 0 null 0" ∷ codes "request_free 1" ∷ codes "wait 1" ∷ [])
    ≡ fault 4 Request
unfolding heading_of line_of word_of fault_of_line number_up_to signed_of is_canonical
row_70 = refl

row_71 : alone
    (codes "irecv 1 0 null 0" ∷ codes "irecv 2 0 null 0" ∷ codes "waitsome 1 2" ∷ codes "=chose 9" ∷ [])
    ≡ fault 5 Request
unfolding heading_of line_of word_of fault_of_line number_up_to signed_of is_canonical
row_71 = refl

row_72 : of_two
    (codes "waitany 1 2" ∷ [])
    ≡ fault 2 Request
unfolding heading_of line_of word_of fault_of_line number_up_to signed_of is_canonical
row_72 = refl

row_73 : alone
    (codes "barrier 2" ∷ [])
    ≡ fault 2 Comm
unfolding heading_of line_of word_of fault_of_line number_up_to signed_of is_canonical
row_73 = refl

row_74 : alone
    (codes "comm_dup 0" ∷ codes "=comm 1 0" ∷ [])
    ≡ fault 3 Comm
unfolding heading_of line_of word_of fault_of_line number_up_to signed_of is_canonical
row_74 = refl

row_75 : alone
    (codes "=apart 7 0" ∷ codes "=apart 7 0" ∷ [])
    ≡ fault 3 Comm
unfolding heading_of line_of word_of fault_of_line number_up_to signed_of is_canonical
row_75 = refl

row_76 : of_two
    (codes "comm_dup 0" ∷ codes "=comm 0 1 1" ∷ [])
    ≡ fault 3 Comm
unfolding heading_of line_of word_of fault_of_line number_up_to signed_of is_canonical
row_76 = refl

row_77 : alone
    (codes "isend 1 9 null 0" ∷ codes "wait 1" ∷ [])
    ≡ fault 2 Comm
unfolding heading_of line_of word_of fault_of_line number_up_to signed_of is_canonical
row_77 = refl

row_78 : of_two
    (codes "comm_create_group 1" ∷ [])
    ≡ fault 2 Group
unfolding heading_of line_of word_of fault_of_line number_up_to signed_of is_canonical
row_78 = refl

row_79 : of_two
    (codes "comm_make 0" ∷ codes "=comm 2 0 0" ∷ [])
    ≡ fault 3 Group
unfolding heading_of line_of word_of fault_of_line number_up_to signed_of is_canonical
row_79 = refl

row_80 : of_two
    (codes "comm_make 1" ∷ codes "=comm 2 0 1" ∷ [])
    ≡ fault 3 Group
unfolding heading_of line_of word_of fault_of_line number_up_to signed_of is_canonical
row_80 = refl

row_81 : of_two
    (codes "comm_idup 1 1" ∷ codes "wait 1" ∷ codes "=idup 2 1 0 1" ∷ [])
    ≡ fault 4 Group
unfolding heading_of line_of word_of fault_of_line number_up_to signed_of is_canonical
row_81 = refl

row_82 : of_two
    (codes "comm_split 1 0 0" ∷ codes "=comm 2 0 1" ∷ [])
    ≡ fault 3 Group
unfolding heading_of line_of word_of fault_of_line number_up_to signed_of is_canonical
row_82 = refl

row_83 : of_three
    (codes "comm_dup 0" ∷ codes "=comm 2 0 1" ∷ codes "comm_dup 2" ∷ codes "=comm 3 0 1 2" ∷ [])
    ≡ fault 5 Group
unfolding heading_of line_of word_of fault_of_line number_up_to signed_of is_canonical
row_83 = refl

row_84 : of_two
    (codes "comm_create_group 0 1" ∷ codes "=comm 2 1 0" ∷ [])
    ≡ fault 3 Group
unfolding heading_of line_of word_of fault_of_line number_up_to signed_of is_canonical
row_84 = refl

row_85 : of_two
    (codes "comm_create_group 0 1" ∷ codes "=comm 2 0" ∷ [])
    ≡ fault 3 Group
unfolding heading_of line_of word_of fault_of_line number_up_to signed_of is_canonical
row_85 = refl

row_86 : alone
    (codes "comm_create_group 0 0" ∷ [])
    ≡ fault 2 Group
unfolding heading_of line_of word_of fault_of_line number_up_to signed_of is_canonical
row_86 = refl

row_87 : of_two
    (codes "=apart 2 1" ∷ [])
    ≡ fault 2 Group
unfolding heading_of line_of word_of fault_of_line number_up_to signed_of is_canonical
row_87 = refl

row_88 : of_two
    (codes "=apart 2 0 1 0" ∷ [])
    ≡ fault 2 Group
unfolding heading_of line_of word_of fault_of_line number_up_to signed_of is_canonical
row_88 = refl
