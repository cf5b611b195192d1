mod ArchiveLemmas
