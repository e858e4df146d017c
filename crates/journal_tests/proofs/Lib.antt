mod Sectors
